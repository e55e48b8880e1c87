-- Letter case and the classes of octets, spelled out.
use Prim.Native.Nat.{ℕ, zero, suc, ◌≤◌, ◌<◌}
use native.Mathlib.Nat.{not-suc-le-zero}
use native.Mathlib.Omega.{arith}
use mathlib.Core.Path.{◌≡◌, refl, sym, ◌∙◌}
use mathlib.Core.Logic.Iff
use mathlib.Core.Logic.{◌⊎◌, inl, inr, ⊎_elim}
use mathlib.Core.Bool.{Bool, true, false, ◌&&◌, beq, and-eq-true_iff, and-false, or-false}
use mathlib.Core.List.{List}
use lib.Dec.{ltb, eqb}
use borrow.Author.Tests.{le-leb, lt-leb, ltb-true, ltb-false, eqb-true, eqb-false, ne_eqb}
use Rattle.spec_octets.specs.Lists.{all, any}
use Rattle.spec_octets.specs.Octets.{text, between, is_digit, is_upper, is_lower, is_letter_or_digit, is_blank, lower}
use Rattle.spec_octets.specs.Pinned.{OctetsBelow256}
use Rattle.spec_octets.specs.Theorems.{LetterCase, OctetClasses}
use Rattle.spec_octets.proofs.ListLaws.{beq_true, true_or_false, all_true, any_false, All-imp}

between_outside : (low high x : ℕ) → (x < low) ⊎ (high < x) → between low high x ≡ false
between_outside low high x (inl h) = rw (lt-leb low x h)
between_outside low high x (inr h) = rw (lt-leb x high h, and-false)

pub letter_case : LetterCase
unfolding lower is_upper
letter_case x = (λ h. rw (le-leb 65 x h.0, le-leb x 90 h.1), λ h. rw (between_outside 65 90 x h))

-- the test passes at every number below n
abbrev all_below : (ℕ → Bool) → ℕ → Bool
all_below f zero = true
all_below f (suc n) = f n && all_below f n

below : (f : ℕ → Bool) (n : ℕ) → all_below f n ≡ true → (k : ℕ) → k < n → f k ≡ true
below f zero e k h = absurd (not-suc-le-zero h)
below f (suc n) e k h =
    let both = (and-eq-true_iff (f n) (all_below f n)).0 e in
    ⊎_elim (λ t. rw (eqb-true k n t) both.0) (λ t. below f n both.1 k (omega (arith, eqb-false k n t))) (true_or_false (eqb k n))

-- a class of ASCII octets is the list of them: below 128 by one test, computed; past it neither holds x
module _ (f : ℕ → Bool) (s : List ℕ) where
  abbrev agree : ℕ → Bool
  agree k = beq (f k) (any (eqb k) s)

  class : all_below agree 128 ≡ true → all (λ y. ltb y 128) s ≡ true → (x : ℕ) → (128 ≤ x → f x ≡ false) → f x ≡ any (eqb x) s
  class table ascii x past = ⊎_elim
      (λ t. beq_true (f x) (any (eqb x) s) (below agree 128 table x (ltb-true x 128 t)))
      (λ t. past (ltb-false x 128 t) ∙ sym ((any_false (eqb x) s).1 (All-imp (other (ltb-false x 128 t)) ((all_true (λ y. ltb y 128) s).0 ascii))))
      (true_or_false (ltb x 128))
    where
      other : 128 ≤ x → (y : ℕ) → ltb y 128 ≡ true → eqb x y ≡ false
      other far y h = ne_eqb x y (λ e. omega (arith, ltb-true y 128 h))

pub octet_classes : OctetClasses
unfolding is_digit is_upper is_lower is_letter_or_digit is_blank
octet_classes x = (
  class is_digit (text "0123456789") refl refl x (above 48 57 (omega arith)),
  class is_letter_or_digit (text "ABCDEFGHIJKLMNOPQRSTUVWXYZabcdefghijklmnopqrstuvwxyz0123456789") refl refl x
      (λ far. rw (above 65 90 (omega arith) far, above 97 122 (omega arith) far) (above 48 57 (omega arith) far)),
  rw or-false,
)
  where
    above : (low high : ℕ) → high < 128 → 128 ≤ x → between low high x ≡ false
    above low high h far = between_outside low high x (inr (omega arith))

pub octets_below_256 : OctetsBelow256
octets_below_256 s = Iff.rfl
