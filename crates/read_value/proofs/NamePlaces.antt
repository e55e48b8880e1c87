-- The offsets of the name: in the first piece, without the white space around it.
use Prim.Native.Nat.{ℕ, ◌+◌, ◌-◌, ◌≤◌}
use native.Mathlib.Omega.{arith}
use mathlib.Core.Path.{◌≡◌, refl, sym, ap, ◌∙◌}
use mathlib.Core.Logic.{◌≢◌}
use mathlib.Core.Bool.{Bool, true, false, cond}
use mathlib.Core.List.{List, [], ◌∷◌, ◌++◌, append-nil, append_assoc, cons≢nil}
use lib.ListN.{length, length-append}
use Rattle.spec_octets.specs.Octets.{is_blank, trim_start, trim_end}
use Rattle.text_labels.specs.DottedLabels.{are_labels}
use Rattle.text_labels.proofs.AnyLength.{any_length}
use Rattle.read_value.specs.declared.ValueRead.TheVariants.{Malformed, Nameless, Named}
use Rattle.spec_value.specs.IssueValues.{malformed, nameless, named, trim, is_domain_name, name_in}
use Rattle.read_value.specs.Places.{name_places}
use Rattle.spec_octets.proofs.TrimEnds.{trim_start_takes, trim_end_takes}

trim_start_shorter : (s : List ℕ) → length (trim_start s) ≤ length s
trim_start_shorter s = let (a, e, blank) = trim_start_takes s in omega (arith, ap length e ∙ length-append a (trim_start s))

-- what stands behind an octet that is no blank is kept
trim_start_front : (f r : List ℕ) → trim_start f ≢ [] → trim_start (f ++ r) ≡ trim_start f ++ r
trim_start_front [] r some = absurd (some refl)
trim_start_front (x ∷ f) r some = go (is_blank x) some (trim_start_front f r)
  where
    go : (t : Bool) → cond t (trim_start f) (x ∷ f) ≢ [] → (trim_start f ≢ [] → trim_start (f ++ r) ≡ trim_start f ++ r) →
        cond t (trim_start (f ++ r)) (x ∷ f ++ r) ≡ cond t (trim_start f) (x ∷ f) ++ r
    go true some rest = rest some
    go false some rest = refl

-- f holds the name, and r follows it
module _ (f r : List ℕ) (some : trim f ≢ []) where
  pub from_name : (b : List ℕ) × (trim_start (f ++ r) ≡ trim f ++ b) × (length (f ++ r) ≡ length (trim_end f) + length b)
  from_name =
      let (b, e, blank) = trim_end_takes f in
      let whole : f ++ r ≡ trim_end f ++ (b ++ r) = ap (λ l. l ++ r) e ∙ append_assoc (trim_end f) b r in
      (b ++ r, ap trim_start whole ∙ trim_start_front (trim_end f) (b ++ r) some, ap length whole ∙ length-append (trim_end f) (b ++ r))

  name_place : length (f ++ r) - length (trim_start (f ++ r)) ≡ length (trim_end f) - length (trim f)
  name_place =
      let (b, e, long) = from_name in
      rw (long, e, length-append (trim f) b) (omega arith)

-- what follows the first piece does not move the name; its parameters begin at k
pub places_front : (f r : List ℕ) (k : ℕ) → name_places f k (name_in (trim f)) ≡ name_places (f ++ r) k (name_in (trim f))
places_front f r k = go (trim f) refl
  where
    by : (x : ℕ) (n : List ℕ) → trim f ≡ x ∷ n → (t : Bool) →
        name_places f k (cond t (named (x ∷ n)) malformed) ≡ name_places (f ++ r) k (cond t (named (x ∷ n)) malformed)
    by x n e true =
        let some : trim f ≢ [] = λ none. cons≢nil (sym e ∙ none) in
        rw (name_place f r some, ← name_place f [] some, append-nil f)
    by x n e false = refl

    go : (n : List ℕ) → trim f ≡ n → name_places f k (name_in n) ≡ name_places (f ++ r) k (name_in n)
    go [] e = refl
    go (x ∷ n) e = by x n e (is_domain_name (x ∷ n))

-- The name by tests, as code makes them.

no_octets : (n : List ℕ) → length n ≡ 0 → name_in n ≡ nameless
no_octets [] none = refl
no_octets (x ∷ n) none = absurd (omega arith)

by_labels : (n : List ℕ) → (length n ≡ 0 → ⊥) → name_in n ≡ cond (is_domain_name n) (named n) malformed
by_labels [] some = absurd (some refl)
by_labels (x ∷ n) some = refl

-- s without the blanks at its end is front, and that without those at its front name; the parameters begin at k
module _ (s front name : List ℕ) (back : front ≡ trim_end s) (start : name ≡ trim_start front) where
  trimmed : trim s ≡ name
  trimmed = rw (start, back)

  pub name_shorter : length name ≤ length front
  name_shorter = rw start (trim_start_shorter front)

  pub name_missing : (k : ℕ) → length name ≡ 0 → Nameless ≡ name_places s k (name_in (trim s))
  name_missing k none = sym (ap (name_places s k) (ap name_in trimmed ∙ no_octets name none))

  module _ (some : length name ≡ 0 → ⊥) (r : Bool) (told : r ≡ are_labels (length name) name) where
    labelled : name_in (trim s) ≡ cond r (named name) malformed
    unfolding is_domain_name
    labelled = ap name_in trimmed ∙ by_labels name some ∙ rw (told, any_length)

    pub name_bad : (k : ℕ) → r ≡ false → Malformed ≡ name_places s k (name_in (trim s))
    name_bad k bad = sym (ap (name_places s k) labelled ∙ rw bad)

    pub name_good : (a e k : ℕ) → r ≡ true → a ≡ length front - length name → e ≡ length front →
        Named (record { from = a; to = e; parameters = k }) ≡ name_places s k (name_in (trim s))
    name_good a e k good from to =
        let first : length s - length (trim_start s) ≡ a =
        rw append-nil at (name_place s [] (λ none. some (ap length (sym trimmed ∙ none)))) ∙ rw (trimmed, ← back, from) in
        let last : a + length name ≡ e = omega (arith, name_shorter) in
        sym (ap (name_places s k) labelled ∙ rw (good, first, last))
