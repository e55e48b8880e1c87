-- A port is the decimal of a number up to 65,535.
use Prim.Native.Nat.{ℕ, ◌+◌, ◌-◌, ◌*◌, ◌/◌, ◌%◌, ◌≤◌}
use Prim.Native.Char.{code}
use native.Mathlib.Omega.{arith}
use mathlib.Core.Path.{◌≡◌, refl, sym, ap, ◌∙◌}
use mathlib.Core.Logic.{◌↔◌, ◌≢◌, ◌⊎◌, inl, inr}
use mathlib.Core.Bool.{Bool, true, not, ◌&&◌, ◌||◌, and-eq-true_iff, or-true}
use mathlib.Core.List.{List, [], ◌∷◌, ◌++◌, append-nil, append_assoc}
use lib.Dec.{leb, eqb}
use lib.ListN.{length}
use borrow.Author.Tests.{leb-true, le-leb, eqb-false, ne_eqb, not-true}
use Rattle.spec_octets.specs.Lists.{all, begins, All}
use Rattle.spec_octets.specs.Octets.{between, is_digit}
use Rattle.spec_octets.specs.Decimal.{decimal_from}
use Rattle.spec_octets.specs.WrittenDecimal.{decimal}
use Rattle.spec_octets.proofs.ListLaws.{all_true, All-head, All-tail}
use Rattle.spec_octets.proofs.WrittenDecimals.{decimal_small, decimal_more, decimal_within_lem, decimal_some, says, decimals}
use Rattle.spec_tlsa.specs.Owners.{max_port, is_port}
use Rattle.spec_tlsa.specs.Pinned.{PortLimit}
use Rattle.spec_tlsa.specs.Theorems.{PortIsADecimal}

pub port_limit : PortLimit
unfolding max_port
port_limit = refl

digit_range : (x : ℕ) → is_digit x ≡ true → (48 ≤ x) × (x ≤ 57)
unfolding is_digit
digit_range x e = let (low, high) = (and-eq-true_iff (leb 48 x) (leb x 57)).0 e in (leb-true 48 x low, leb-true x 57 high)

-- one more digit behind a number that is not zero
one_digit_more : (m x : ℕ) → 1 ≤ m → is_digit x ≡ true → decimal (m * 10 + (x - code "0")) ≡ decimal m ++ (x ∷ [])
one_digit_more m x some e =
    let (low, high) = digit_range x e in
    let n = m * 10 + (x - 48) in
    let tens : n / 10 ≡ m = omega arith in
    let last : 48 + n % 10 ≡ x = omega arith in
    decimal_more n (omega arith) ∙ rw (tens, last)

-- and so many more
digits_more : (m : ℕ) (s : List ℕ) → 1 ≤ m → All (λ x. is_digit x ≡ true) s → decimal (decimal_from m s) ≡ decimal m ++ s
digits_more m [] some digits = sym (append-nil (decimal m))
digits_more m (x ∷ s) some digits =
    digits_more (m * 10 + (x - code "0")) s (bigger (digit_range x (All-head digits))) (All-tail digits)
    ∙ rw (one_digit_more m x some (All-head digits), append_assoc)
  where
    bigger : (48 ≤ x) × (x ≤ 57) → 1 ≤ m * 10 + (x - code "0")
    bigger h = omega arith

-- one digit is the decimal of its value
one_digit : (x : ℕ) → is_digit x ≡ true → decimal (0 * 10 + (x - code "0")) ≡ x ∷ []
one_digit x e = small (digit_range x e)
  where
    small : (48 ≤ x) × (x ≤ 57) → decimal (0 * 10 + (x - code "0")) ≡ x ∷ []
    small h =
        let back : 48 + (0 * 10 + (x - 48)) ≡ x = omega arith in
        decimal_small (0 * 10 + (x - 48)) (omega arith) ∙ ap (λ y. y ∷ []) back

-- digits without a leading zero are the decimal of their value
back : (x : ℕ) (s : List ℕ) → All (λ y. is_digit y ≡ true) (x ∷ s) → (s ≡ []) ⊎ (x ≢ code "0") → x ∷ s ≡ decimal (decimal_from 0 (x ∷ s))
back x s digits (inl e) = rw e (sym (one_digit x (All-head digits)))
back x s digits (inr n) = above (digit_range x (All-head digits))
  where
    above : (48 ≤ x) × (x ≤ 57) → x ∷ s ≡ decimal (decimal_from 0 (x ∷ s))
    above h = sym (digits_more (0 * 10 + (x - code "0")) s (omega arith) (All-tail digits) ∙ ap (λ front. front ++ s) (one_digit x (All-head digits)))

-- a port has at most five digits
pub port_short : (n : ℕ) → n ≤ max_port → length (decimal n) ≤ 5
unfolding max_port
port_short n low = decimal_within_lem 4 n (omega arith)

abbrev is_short : List ℕ → Bool
is_short p = between 1 5 (length p)

abbrev is_bare : List ℕ → Bool
is_bare p = eqb (length p) 1 || not (begins (eqb (code "0")) p)

pub port_is_a_decimal : PortIsADecimal
unfolding is_port
port_is_a_decimal p = (λ e. read p (tests.0 e), λ (n, is, low). stand n is low)
  where
    Tests : List ℕ → Type 0
    Tests p = (1 ≤ length p) × (length p ≤ 5) × All (λ x. is_digit x ≡ true) p × (is_bare p ≡ true) × (decimal_from 0 p ≤ max_port)

    tests : (is_port p ≡ true) ↔ Tests p
    tests = (
      λ e.
          let (front, low) = (and-eq-true_iff (is_short p && all is_digit p && is_bare p) (leb (decimal_from 0 p) max_port)).0 e in
          let (digits, bare) = (and-eq-true_iff (is_short p && all is_digit p) (is_bare p)).0 front in
          let (short, all_digits) = (and-eq-true_iff (is_short p) (all is_digit p)).0 digits in
          let (one, five) = (and-eq-true_iff (leb 1 (length p)) (leb (length p) 5)).0 short in
          (leb-true 1 _ one, leb-true _ 5 five, (all_true is_digit p).0 all_digits, bare, leb-true _ max_port low),
      λ (one, five, digits, bare, low).
          rw (le-leb 1 (length p) one, le-leb (length p) 5 five, (all_true is_digit p).1 digits, bare, le-leb (decimal_from 0 p) max_port low),
    )

    bare_digit : (x : ℕ) (s : List ℕ) → is_bare (x ∷ s) ≡ true → (s ≡ []) ⊎ (x ≢ code "0")
    bare_digit x [] e = inl refl
    bare_digit x (y ∷ s) e =
        let longer = ne_eqb (length (x ∷ y ∷ s)) 1 (λ z. omega arith) in
        inr (λ z. eqb-false (code "0") x (not-true (eqb (code "0") x) (rw longer at e)) (sym z))

    read : (p : List ℕ) → Tests p → (n : ℕ) × (p ≡ decimal n) × (n ≤ max_port)
    read [] (one, five, digits, bare, low) = absurd (omega arith)
    read (x ∷ s) (one, five, digits, bare, low) = (decimal_from 0 (x ∷ s), back x s digits (bare_digit x s bare), low)

    zeroless : (p : List ℕ) → 1 ≤ length p → ((s : List ℕ) → p ≡ code "0" ∷ s → s ≡ []) → is_bare p ≡ true
    zeroless [] one alone = absurd (omega arith)
    zeroless (x ∷ []) one alone = refl
    zeroless (x ∷ y ∷ s) one alone = rw (ne_eqb (code "0") x (λ z. absurd (omega (arith, ap length (alone (y ∷ s) (rw z))))), or-true)

    stand : (n : ℕ) → p ≡ decimal n → n ≤ max_port → is_port p ≡ true
    stand n is low =
        tests.1 (
          rw is (decimal_some n),
          rw is (port_short n low),
          rw is (says n).digits,
          zeroless p (rw is (decimal_some n)) (rw is (decimals n).3),
          rw (is, (says n).back) low,
        )
