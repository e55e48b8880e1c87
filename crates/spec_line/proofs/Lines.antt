-- A line is read exactly when the productions match it, as the one property that it stands for.
use Rattle.std.proofs.lemmas.Option.{none-some, same_Some}
use Rattle.std.specs.Prelude.{Option, None, Some}
use Prim.Native.Nat.{ℕ, ◌≤◌}
use native.Mathlib.Omega.{arith}
use mathlib.Core.Path.{◌≡◌, refl, ap}
use mathlib.Core.Logic.{◌↔◌}
use mathlib.Core.Bool.{Bool, true, false, cond, ◌&&◌, and-eq-true_iff, false≢true}
use mathlib.Core.List.{List, [], ◌∷◌, ◌++◌}
use lib.Dec.{leb}
use lib.ListN.{length}
use borrow.Author.Tests.{leb-true, le-leb}
use Rattle.spec_limits.specs.Limits.{max_tag_octets}
use Rattle.spec_octets.specs.Lists.{all, begins}
use Rattle.spec_octets.specs.Octets.{between, is_digit, is_upper, is_lower, is_letter_or_digit, is_blank}
use Rattle.spec_octets.specs.Decimal.{decimal_from, decimal_octet}
use Rattle.spec_octets.proofs.ListLaws.{all_true, All-imp, All-head}
use Rattle.spec_octets.proofs.Runs.{Blankless, not_blank}
use Rattle.spec_record.specs.Property.{Property}
use Rattle.spec_octets.specs.Reader.{if_read}
use Rattle.spec_line.specs.Read.{field, line_value, is_line_tag, property_of, read_line}
use Rattle.spec_line.specs.Grammar.{some_blanks, OctetField, TagField, ValueField, LineOf}
use Rattle.spec_line.specs.Theorems.{LineIsTheGrammar}
use Rattle.spec_line.proofs.Fields.{field_apart}
use Rattle.spec_line.proofs.LineValues.{value_field, value_unblank}

-- Flags.

pub flags_field : (s : List ℕ) (n : ℕ) → (decimal_octet s ≡ Some n) ↔ OctetField n s
unfolding decimal_octet
flags_field s n = (λ h. go _ refl h, stand)
  where
    is_flags : Bool
    is_flags = between 1 3 (length s) && all is_digit s && leb (decimal_from 0 s) 255

    go : (t : Bool) → is_flags ≡ t → cond t (Some (decimal_from 0 s)) None ≡ Some n → OctetField n s
    go true e h =
        let (front, small) = (and-eq-true_iff (between 1 3 (length s) && all is_digit s) (leb (decimal_from 0 s) 255)).0 e in
        let (long, digits) = (and-eq-true_iff (between 1 3 (length s)) (all is_digit s)).0 front in
        let (low, high) = (and-eq-true_iff (leb 1 (length s)) (leb (length s) 3)).0 long in
        let value : decimal_from 0 s ≡ n = same_Some _ _ h in
        (leb-true 1 _ low, leb-true _ 3 high, (all_true is_digit s).0 digits, value, rw value at (leb-true (decimal_from 0 s) 255 small))
    go false e h = absurd (none-some _ h)

    stand : OctetField n s → decimal_octet s ≡ Some n
    stand k =
        let (low, high, digits, value, small) = k in
        rw (le-leb 1 (length s) low, le-leb (length s) 3 high, (all_true is_digit s).1 digits, value, le-leb n 255 small)

pub flags_blankless : {s : List ℕ} {n : ℕ} → OctetField n s → Blankless s
unfolding is_digit
flags_blankless k = All-imp (not_blank is_digit refl refl) k.2

-- Tag.

tag_field : (t : List ℕ) → (is_line_tag t ≡ true) ↔ TagField t
unfolding is_line_tag
tag_field [] = (λ e. absurd (false≢true e), λ k. absurd (omega (arith, k.0)))
tag_field (x ∷ t) = (
  λ e. let (short, letters) = (and-eq-true_iff (leb (length (x ∷ t)) max_tag_octets) (all is_letter_or_digit (x ∷ t))).0 e in
      (omega arith, leb-true _ max_tag_octets short, (all_true is_letter_or_digit (x ∷ t)).0 letters),
  λ k. (and-eq-true_iff (leb (length (x ∷ t)) max_tag_octets) (all is_letter_or_digit (x ∷ t))).1
      (le-leb _ max_tag_octets k.1, (all_true is_letter_or_digit (x ∷ t)).1 k.2),
)

tag_blankless : {t : List ℕ} → TagField t → Blankless t
unfolding is_letter_or_digit is_upper is_lower is_digit
tag_blankless k = All-imp (not_blank is_letter_or_digit refl refl) k.2

pub unblank : (t : List ℕ) → 1 ≤ length t → Blankless t → (rest : List ℕ) → begins is_blank (t ++ rest) ≡ false
unblank [] long clean rest = absurd (omega arith)
unblank (x ∷ t) long clean rest = All-head clean

-- The fields together.

pub fields_some :
    {A : Type 0} (o : Option (List ℕ × List ℕ)) (k : List ℕ → List ℕ → Option A) (p : A) → if_read None o k ≡ Some p →
    (f rest : List ℕ) × (o ≡ Some (f, rest)) × (k f rest ≡ Some p)
fields_some None k p h = absurd (none-some _ h)
fields_some (Some r) k p h = (r.0, r.1, refl, h)

property_some :
    (o : Option ℕ) (t : List ℕ) (w : Option (List ℕ)) (p : Property) → property_of o t w ≡ Some p →
    (o ≡ Some p.flags) × (t ≡ p.tag) × (is_line_tag t ≡ true) × (w ≡ Some p.value)
property_some None t w p h = absurd (none-some _ h)
property_some (Some f) t None p h = absurd (none-some _ h)
property_some (Some f) t (Some v) p h = go (is_line_tag t) refl h
  where
    go :
        (b : Bool) → is_line_tag t ≡ b → cond b (Some (record { flags = f; tag = t; value = v })) None ≡ Some p →
        (Some f ≡ Some p.flags) × (t ≡ p.tag) × (is_line_tag t ≡ true) × (Some v ≡ Some p.value)
    go true e h =
        let same = same_Some _ _ h in
        (ap (λ (q : Property). Some q.flags) same, ap (λ (q : Property). q.tag) same, e, ap (λ (q : Property). Some q.value) same)
    go false e h = absurd (none-some _ h)

pub line_is_the_grammar : LineIsTheGrammar
unfolding read_line
line_is_the_grammar s p = (
  read,
  λ k. let (f, r₁, e₁, flags, k₁) = k in
      let (b₁, s₁, e₂, blanks₁, k₂) = k₁ in
      let (t, r₂, e₃, tag, k₃) = k₂ in
      let (b₂, s₂, e₄, blanks₂, value) = k₃ in
      stand f b₁ t b₂ s₂ (cc) flags blanks₁ tag blanks₂ value,
)
  where
    read : read_line s ≡ Some p → LineOf p s
    read h =
        let (f, s₁, h₁, r₁) = fields_some (field s) _ p h in
        let (t, s₂, h₂, r₂) = fields_some (field s₁) _ p r₁ in
        let (flags, same, tag, value) = property_some (decimal_octet f) t (line_value s₂) p r₂ in
        let (b₁, e₁, clean₁, blanks₁, n₁) = (field_apart s f s₁).0 h₁ in
        let (b₂, e₂, clean₂, blanks₂, n₂) = (field_apart s₁ t s₂).0 h₂ in (
          f,
          b₁ ++ s₁,
          e₁,
          (flags_field f p.flags).0 flags,
          (b₁, s₁, refl, blanks₁, (t, b₂ ++ s₂, e₂, (same, (tag_field t).0 tag), (b₂, s₂, refl, blanks₂, (value_field s₂ p.value).0 value))),
        )

    stand :
        (f b₁ t b₂ s₂ : List ℕ) → s ≡ f ++ (b₁ ++ (t ++ (b₂ ++ s₂))) → OctetField p.flags f → some_blanks b₁ →
        (t ≡ p.tag) × TagField t → some_blanks b₂ → ValueField p.value s₂ → read_line s ≡ Some p
    stand f b₁ t b₂ s₂ e flags blanks₁ tag blanks₂ value =
        let s₁ = t ++ (b₂ ++ s₂) in
        let clean = tag_blankless tag.1 in
        rw (
          (field_apart s f s₁).1 (b₁, e, flags_blankless flags, blanks₁, unblank t tag.1.0 clean (b₂ ++ s₂)),
          (field_apart s₁ t s₂).1 (b₂, refl, clean, blanks₂, value_unblank p.value s₂ value),
          (flags_field f p.flags).1 flags,
          (value_field s₂ p.value).1 value,
          (tag_field t).1 tag.1,
          tag.0,
        ) refl
