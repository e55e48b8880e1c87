-- CAA data holds a property exactly when it is its wire form; the critical bit; the known tags in upper and lower case.
use Rattle.std.proofs.lemmas.Option.{same_Some, none-some}
use Rattle.std.specs.Prelude.{Option, None, Some}
use Prim.Native.Nat.{ℕ, ◌≤◌, ◌/◌, ◌%◌}
use Prim.Native.String.{String}
use native.Mathlib.Omega.{arith}
use mathlib.Core.Path.{◌≡◌, refl, sym, ap, ◌∙◌}
use mathlib.Core.Logic.{◌≢◌}
use mathlib.Core.Bool.{Bool, true, false, cond, true≢false}
use mathlib.Core.List.{List, [], ◌∷◌, ◌++◌}
use lib.Dec.{leb}
use lib.ListN.{length}
use borrow.Author.Tests.{leb-true, le-leb, eqb-true, eq-eqb}
use Rattle.spec_octets.specs.Octets.{text, lower, lowered, equal_ignoring_case, is_upper}
use Rattle.spec_octets.specs.Reader.{octet, octets}
use Rattle.spec_octets.proofs.ReaderLaws.{bind_some, given_some, octet_some, octets_some, pure_some}
use Rattle.spec_octets.proofs.Texts.{whole_texts}
use Rattle.spec_record.specs.declared.PropertyTag.{PropertyTag}
use Rattle.spec_record.specs.declared.PropertyTag.TheVariants.{Issue, IssueWild, Iodef, Unknown}
use Rattle.spec_record.specs.Property.{Property, wire_property, read_property, found, property, is_critical, tag_of}
use Rattle.spec_record.specs.Pinned.{PropertyForm}
use Rattle.spec_record.specs.Theorems.{PropertyIsItsParts, CriticalBit, KnownTags, UnknownTags}

-- what is left of the data after its property is empty, and `found` leaves it out
found_some : (o : Option (Property × List ℕ)) (p : Property) → found o ≡ Some p → (rest : List ℕ) × (o ≡ Some (p, rest))
found_some None p h = absurd (none-some _ h)
found_some (Some r) p h = (r.1, (pure_some r.0 p r.1 r.1).1 (same_Some _ _ h, refl))

pub property_form : PropertyForm
property_form p = refl

pub property_is_its_parts : PropertyIsItsParts
unfolding property read_property
property_is_its_parts d p = (read, stand)
  where
    Parts : Type 0
    Parts = (d ≡ wire_property p) × (1 ≤ length p.tag)

    parts :
        (f n : ℕ) (t s₁ s₂ s₃ rest : List ℕ) → d ≡ f ∷ s₁ → s₁ ≡ n ∷ s₂ → (s₂ ≡ t ++ s₃) × (length t ≡ n) →
        (leb 1 n ≡ true) × (record { flags = f; tag = t; value = s₃ } ≡ p) × ([] ≡ rest) → Parts
    parts f n t s₁ s₂ s₃ rest first second third last =
        rw (first, second, third.0, ← last.1, third.1) (refl, leb-true 1 n last.0)

    read : property d ≡ Some p → Parts
    read h =
        let (rest, r) = found_some (read_property d) p h in
        let (f, s₁, h₁, r₁) = (bind_some octet _ d p rest).0 r in
        let (n, s₂, h₂, r₂) = (bind_some octet _ s₁ p rest).0 r₁ in
        let (t, s₃, h₃, r₃) = (bind_some (octets n) _ s₂ p rest).0 r₂ in
        parts f n t s₁ s₂ s₃ rest ((octet_some d f s₁).0 h₁) ((octet_some s₁ n s₂).0 h₂) ((octets_some n s₂ t s₃).0 h₃)
        ((given_some (leb 1 n) _ p [] rest).0 r₃)

    stand : Parts → property d ≡ Some p
    stand h =
        rw (h.0, (octets_some (length p.tag) (p.tag ++ p.value) p.tag p.value).1 (refl, refl), le-leb 1 (length p.tag) h.1)

pub critical_bit : CriticalBit
unfolding is_critical
critical_bit p small = (λ e. let k = eqb-true (p.flags / 128 % 2) 1 e in omega arith, λ h. eq-eqb (p.flags / 128 % 2) 1 (omega arith))

-- which comparison has passed, of those with "issue", "issuewild" and "iodef"
abbrev Passed : Bool → Bool → Bool → PropertyTag → Type 0
Passed a b c Issue = a ≡ true
Passed a b c IssueWild = b ≡ true
Passed a b c Iodef = c ≡ true
Passed a b c Unknown = Unit {0}

passed : (a b c : Bool) → Passed a b c (cond a Issue (cond b IssueWild (cond c Iodef Unknown)))
passed true b c = refl
passed false true c = refl
passed false false true = refl
passed false false false = tt

pub known_tags : KnownTags
unfolding tag_of equal_ignoring_case lower is_upper
known_tags t = (
  (λ e. (whole_texts.0 t (text "issue")).0 (is Issue e), λ e. rw e),
  (λ e. (whole_texts.0 t (text "issuewild")).0 (is IssueWild e), λ e. rw e),
  (λ e. (whole_texts.0 t (text "iodef")).0 (is Iodef e), λ e. rw e),
)
  where
    is_tag : String → Bool
    is_tag known = equal_ignoring_case t (text known)

    is : (x : PropertyTag) → tag_of t ≡ x → Passed (is_tag "issue") (is_tag "issuewild") (is_tag "iodef") x
    is x e = rw e at (passed (is_tag "issue") (is_tag "issuewild") (is_tag "iodef"))

abbrev is_known : PropertyTag → Bool
is_known Issue = true
is_known IssueWild = true
is_known Iodef = true
is_known Unknown = false

pub unknown_tags : UnknownTags
unknown_tags t = (
  λ e. (
    λ k. known (sym e ∙ (known_tags t).0.1 k) refl,
    λ k. known (sym e ∙ (known_tags t).1.1 k) refl,
    λ k. known (sym e ∙ (known_tags t).2.1 k) refl,
  ),
  by (tag_of t) refl,
)
  where
    known : {x : PropertyTag} → Unknown ≡ x → is_known x ≡ true → ⊥
    known e k = true≢false (sym k ∙ sym (ap is_known e))

    by : (x : PropertyTag) → tag_of t ≡ x → (lowered t ≢ text "issue") × (lowered t ≢ text "issuewild") × (lowered t ≢ text "iodef") → x ≡ Unknown
    by Issue e n = absurd (n.0 ((known_tags t).0.0 e))
    by IssueWild e n = absurd (n.1 ((known_tags t).1.0 e))
    by Iodef e n = absurd (n.2 ((known_tags t).2.0 e))
    by Unknown e n = refl
