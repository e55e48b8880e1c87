-- Reading a decimal number digit by digit: the value so far and the remaining digits give the result.
use Rattle.std.specs.Prelude.{Option, None, Some}
use Prim.Native.Nat.{ℕ, ◌+◌, ◌-◌, ◌*◌, ◌≤◌, ◌<◌}
use native.Mathlib.Omega.{arith}
use mathlib.Core.Path.{◌≡◌, refl, sym, ◌∙◌}
use mathlib.Core.Bool.{Bool, true, false, cond, ◌&&◌, and-false, and-eq-true_iff}
use mathlib.Core.List.{List, [], ◌∷◌}
use lib.Dec.{leb}
use lib.ListN.{length, get_or, drop, drop_of_length-le}
use borrow.Author.Tests.{leb-true, le-leb, lt-leb}
use Rattle.spec_octets.specs.Lists.{all}
use Rattle.spec_octets.specs.Octets.{is_digit}
use Rattle.spec_octets.specs.Decimal.{decimal_from, decimal_octet}
use Rattle.spec_octets.proofs.Walks.{drop_step}
use Rattle.text_decimal.specs.Places.{octet_read, decimal_in}

-- the number that the digits read so far stand for is n, and s is left
abbrev pub digits_left : ℕ → List ℕ → Option ℕ
digits_left n s = octet_read (cond (all is_digit s && leb (decimal_from n s) 255) (Some (decimal_from n s)) None)

-- what the code knows of a digit
module _ (r : Bool) (x : ℕ) (told : r ≡ is_digit x) (h : r ≡ true) where
  digit_bounds : (48 ≤ x) × (x ≤ 57)
  unfolding is_digit
  digit_bounds =
      let k = (and-eq-true_iff (leb 48 x) (leb x 57)).0 (sym told ∙ h) in
      (leb-true 48 x k.0, leb-true x 57 k.1)

  pub digit_low : 48 ≤ x
  digit_low = digit_bounds.0

module _ (s : List ℕ) where
  pub no_digits : length s ≡ 0 → None ≡ decimal_in s
  unfolding decimal_in decimal_octet
  no_digits e = rw e

  pub many_digits : 3 < length s → None ≡ decimal_in s
  unfolding decimal_in decimal_octet
  many_digits h = rw (lt-leb (length s) 3 h, and-false)

  pub digits_start : (length s ≡ 0 → ⊥) → length s ≤ 3 → decimal_in s ≡ digits_left 0 (drop 0 s)
  unfolding decimal_in decimal_octet
  digits_start full few = rw (le-leb 1 (length s) (omega arith), le-leb (length s) 3 few)

  -- the number grows with each digit
  grows : (n : ℕ) (l : List ℕ) → n ≤ decimal_from n l
  grows n [] = omega arith
  grows n (x ∷ l) = omega (arith, grows (n * 10 + (x - 48)) l)

  module _ (n i : ℕ) (left : decimal_in s ≡ digits_left n (drop i s)) where
    pub digits_end : n ≤ 255 → length s ≤ i → Some n ≡ decimal_in s
    digits_end small h = sym (left ∙ rw (drop_of_length-le s h, le-leb n 255 small))

    module _ (r : Bool) (h : i < length s) (told : r ≡ is_digit (get_or s i 0)) where
      pub no_digit : r ≡ false → None ≡ decimal_in s
      no_digit e = sym (left ∙ rw (drop_step 0 s i (i + 1) h, ← told, e))

      pub digits_turn : (m j : ℕ) → r ≡ true → m ≡ n * 10 + (get_or s i 0 - 48) → j ≡ i + 1 → decimal_in s ≡ digits_left m (drop j s)
      digits_turn m j e grown next = left ∙ rw (drop_step 0 s i j h next, ← told, e, grown)

      -- a number above 255 stays above it, whatever digits follow
      over : r ≡ true → 255 < n * 10 + (get_or s i 0 - 48) → None ≡ decimal_in s
      over e large =
          let rest = drop (i + 1) s in
          let m = n * 10 + (get_or s i 0 - 48) in
          sym (digits_turn m (i + 1) e refl refl ∙ rw (lt-leb (decimal_from m rest) 255 (omega (arith, grows m rest)), and-false))

      pub tens_over : r ≡ true → (n * 10 < 256 → ⊥) → None ≡ decimal_in s
      tens_over e large = over e (omega arith)

      pub number_over : (t : ℕ) → r ≡ true → n * 10 ≡ t → (t + (get_or s i 0 - 48) < 256 → ⊥) → None ≡ decimal_in s
      number_over t e tens large = over e (omega arith)

-- what decimal_octet has told
module _ (t : List ℕ) (o : Option ℕ) (told : o ≡ decimal_in t) where
  pub octet_there : (n : ℕ) → o ≡ Some n → decimal_octet t ≡ Some n
  unfolding decimal_in
  octet_there n g = go (decimal_octet t) (sym told ∙ g)
    where
      go : (q : Option ℕ) → octet_read q ≡ Some n → q ≡ Some n
      go None k = let z : ◌≡◌ {A = ℕ} 0 1 = cc in absurd (omega arith)
      go (Some m) k = cc

  pub octet_missing : o ≡ None → decimal_octet t ≡ None
  unfolding decimal_in
  octet_missing g = go (decimal_octet t) (sym told ∙ g)
    where
      go : (q : Option ℕ) → octet_read q ≡ None → q ≡ None
      go None k = refl
      go (Some m) k = let z : ◌≡◌ {A = ℕ} 0 1 = cc in absurd (omega arith)
