-- The length octets of an element: they are read exactly where they are written, and they are the shortest.
use Rattle.std.specs.Prelude.{Some}
use Prim.Native.Nat.{ℕ, ◌≤◌, ◌<◌, ◌^◌}
use native.Mathlib.Omega.{arith}
use mathlib.Core.Path.{◌≡◌, refl, sym, ◌∙◌}
use mathlib.Core.Bool.{Bool, true, false}
use mathlib.Core.List.{List, [], ◌∷◌, ◌++◌}
use lib.Dec.{ltb}
use lib.ListN.{length}
use borrow.Author.Tests.{ltb-true, ltb-false, lt-ltb, le-ltb}
use Rattle.spec_octets.specs.Octets.{same}
use Rattle.spec_octets.specs.Reader.{value_from, in_octets}
use Rattle.spec_octets.proofs.ReaderLaws.{given_some}
use Rattle.spec_octets.proofs.Texts.{same_equal}
use Rattle.spec_der.specs.Elements.{wire_length, more_length_octets, length_value, element_length}
use Rattle.spec_der.specs.Theorems.{LengthIsItsForm}
use Rattle.spec_der.proofs.Forms.{octet_form, octets_form, next_read, next_stand}

-- the three forms of length octets
pub by_length :
    {C : Type 0} (n : ℕ) → (n < 128 → wire_length n ≡ n ∷ [] → C) → (128 ≤ n → n < 256 → wire_length n ≡ 129 ∷ n ∷ [] → C) →
    (256 ≤ n → wire_length n ≡ 130 ∷ in_octets 2 n → C) → C
unfolding wire_length
by_length {C} n one two three = go (ltb n 128) refl
  where
    further : 128 ≤ n → (t : Bool) → ltb n 256 ≡ t → C
    further h true e = two h (ltb-true n 256 e) (rw (le-ltb n 128 h, e))
    further h false e =
        let k = ltb-false n 256 e in
        three k (rw (le-ltb n 128 h, e))

    go : (t : Bool) → ltb n 128 ≡ t → C
    go true e = one (ltb-true n 128 e) (rw e)
    go false e = further (ltb-false n 128 e) (ltb n 256) refl

-- octets that are those of the length that they give are few
small : (n x : ℕ) (more : List ℕ) → x ∷ more ≡ wire_length n → length_value x more ≡ n → n < 2 ^ 16
small n x more e v = by_length n (λ h w. omega arith) (λ h k w. omega arith) (λ h w. two (e ∙ w))
  where
    two : x ∷ more ≡ 130 ∷ in_octets 2 n → n < 2 ^ 16
    two f =
        let head : x ≡ 130 = cc in
        let tail : more ≡ in_octets 2 n = cc in
        let value : value_from 0 (in_octets 2 n) ≡ n = rw (head, tail) at v in
        omega arith

module _ (s : List ℕ) (n : ℕ) (rest : List ℕ) where
  pub length_stands :
      (x : ℕ) (more : List ℕ) → length more ≡ more_length_octets x → x ∷ more ≡ wire_length n → length_value x more ≡ n → s ≡ (x ∷ more) ++ rest →
      element_length s ≡ Some (n, rest)
  unfolding element_length
  length_stands x more l e v front =
      next_stand octet_form _ x (more ++ rest) front tt
      (next_stand (octets_form (more_length_octets x)) _ more rest refl l
      ((given_some _ _ n rest rest).1 ((same_equal (x ∷ more) (wire_length (length_value x more))).1 (rw v e), v, refl)))

pub length_is_its_form : LengthIsItsForm
unfolding element_length
length_is_its_form s n rest = (read, λ h. stand h.0 h.1)
  where
    found :
        (x : ℕ) (more mid : List ℕ) → s ≡ x ∷ (more ++ mid) →
        (same (x ∷ more) (wire_length (length_value x more)) ≡ true) × (length_value x more ≡ n) × (mid ≡ rest) →
        (s ≡ wire_length n ++ rest) × (n < 2 ^ 16)
    found x more mid front h =
        let e : x ∷ more ≡ wire_length n = (same_equal (x ∷ more) (wire_length (length_value x more))).0 h.0 ∙ rw h.1 in
        (front ∙ rw (← e, h.2), small n x more e h.1)

    read : element_length s ≡ Some (n, rest) → (s ≡ wire_length n ++ rest) × (n < 2 ^ 16)
    read h =
        next_read octet_form _ h (λ x s₁ e₁ g₁ h₁.
        next_read (octets_form (more_length_octets x)) _ h₁ (λ more s₂ e₂ g₂ h₂.
        found x more s₂ (rw (← e₂) e₁) ((given_some _ _ n s₂ rest).0 h₂)))

    stand : s ≡ wire_length n ++ rest → n < 2 ^ 16 → element_length s ≡ Some (n, rest)
    stand front h =
        by_length n
        (λ k w. length_stands s n rest n [] (rw (lt-ltb n 128 k)) (sym w) (rw (lt-ltb n 128 k)) (rw w at front))
        (λ k l w. length_stands s n rest 129 (n ∷ []) refl (sym w) (omega arith) (rw w at front))
        (λ k w. length_stands s n rest 130 (in_octets 2 n) refl (sym w) (omega arith) (rw w at front))
