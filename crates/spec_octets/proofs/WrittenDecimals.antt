-- A decimal has the value of its number, without leading zeros.
use Prim.Native.Nat.{ℕ, zero, suc, ◌+◌, ◌/◌, ◌%◌, ◌^◌, ◌≤◌, ◌<◌}
use Prim.Native.Char.{code}
use native.Mathlib.Omega.{arith}
use native.Mathlib.Nat.{div-add-mod', pow-suc, div-lt_iff_lt-mul}
use mathlib.Core.Path.{◌≡◌, refl, sym, ◌∙◌}
use mathlib.Core.Logic.{◌≢◌, ⊎_elim}
use mathlib.Core.Bool.{Bool, true, false, cond}
use mathlib.Core.List.{List, [], ◌∷◌, ◌++◌, cons≢nil}
use lib.Dec.{ltb}
use lib.ListN.{length, length-append}
use borrow.Author.Tests.{ltb-true, ltb-false, lt-ltb, le-ltb, le-leb}
use Rattle.spec_octets.specs.Lists.{All, all_nil, all_cons}
use Rattle.spec_octets.specs.Octets.{is_digit}
use Rattle.spec_octets.specs.Decimal.{decimal_from}
use Rattle.spec_octets.proofs.ListLaws.{true_or_false, All-join}
use Rattle.spec_octets.proofs.Decimals.{from_last}
use Rattle.spec_octets.specs.WrittenDecimal.{digit, decimal_within, decimal}
use Rattle.spec_octets.specs.Theorems.{Decimals}

pub digit_is : (d : ℕ) → d < 10 → is_digit (digit d) ≡ true
unfolding is_digit
digit_is d h = rw (le-leb 48 (48 + d) (omega arith), le-leb (48 + d) 57 (omega arith))

-- any number of steps that is enough gives the same
steps_enough : (f g n : ℕ) → n ≤ f → n ≤ g → decimal_within f n ≡ decimal_within g n
steps_enough zero zero n h k = refl
steps_enough zero (suc g) n h k = rw (lt-ltb n 10 (omega arith))
steps_enough (suc f) zero n h k = rw (lt-ltb n 10 (omega arith))
steps_enough (suc f) (suc g) n h k = by (ltb n 10) refl (steps_enough f g (n / 10))
  where
    by :
        (t : Bool) → ltb n 10 ≡ t → (n / 10 ≤ f → n / 10 ≤ g → decimal_within f (n / 10) ≡ decimal_within g (n / 10)) →
        cond t (digit n ∷ []) (decimal_within f (n / 10) ++ (digit (n % 10) ∷ [])) ≡ cond t (digit n ∷ []) (decimal_within g (n / 10) ++ (digit (n % 10) ∷ []))
    by true e ih = refl
    by false e ih = let m = ltb-false n 10 e in rw (ih (omega arith) (omega arith))

pub decimal_small : (n : ℕ) → n < 10 → decimal n ≡ digit n ∷ []
unfolding decimal
decimal_small zero h = refl
decimal_small (suc n) h = rw (lt-ltb (suc n) 10 h)

pub decimal_more : (n : ℕ) → 10 ≤ n → decimal n ≡ decimal (n / 10) ++ (digit (n % 10) ∷ [])
unfolding decimal
decimal_more zero h = absurd (omega arith)
decimal_more (suc n) h = rw (le-ltb (suc n) 10 h, steps_enough n (suc n / 10) (suc n / 10) (omega arith) (omega arith))

-- a number below a power of ten has at most as many digits
pub decimal_within_lem : (k n : ℕ) → n < 10 ^ suc k → length (decimal n) ≤ suc k
decimal_within_lem zero n h = rw (decimal_small n (omega arith)) (omega arith)
decimal_within_lem (suc k) n h = by (ltb n 10) refl (decimal_within_lem k (n / 10))
  where
    by : (t : Bool) → ltb n 10 ≡ t → (n / 10 < 10 ^ suc k → length (decimal (n / 10)) ≤ suc k) → length (decimal n) ≤ suc (suc k)
    by true e ih = rw (decimal_small n (ltb-true n 10 e)) (omega arith)
    by false e ih =
        let tens = (div-lt_iff_lt-mul {k = 10} {x = n} {y = 10 ^ suc k} (omega arith)).1 (rw pow-suc at h) in
        let m = ltb-false n 10 e in
        rw (decimal_more n (omega arith), length-append) (omega (arith, ih tens))

-- what holds of the digits below ten, and of a number where it holds of its tens, holds of every number
pub by_tens : (P : ℕ → Type 0) → ((n : ℕ) → n < 10 → P n) → ((n : ℕ) → 10 ≤ n → P (n / 10) → P n) → (n : ℕ) → P n
by_tens P small more n = go n n (omega arith)
  where
    go : (f n : ℕ) → n ≤ f → P n
    go zero n h = small n (omega arith)
    go (suc f) n h = ⊎_elim (λ e. small n (ltb-true n 10 e)) (λ e. let m = ltb-false n 10 e in more n (omega arith) (go f (n / 10) (omega arith))) (true_or_false (ltb n 10))

-- a front that is not empty begins what it is the front of
begun : (a b s : List ℕ) (x : ℕ) → a ≢ [] → a ++ b ≡ x ∷ s → (r : List ℕ) × (a ≡ x ∷ r)
begun [] b s x n e = absurd (n refl)
begun (y ∷ a) b s x n e = (a, cc)

-- what is proved by tens; above zero no decimal begins with a zero
pub record Says (n : ℕ) : Type 0 where
  pub some : decimal n ≢ []
  pub digits : All (λ x. is_digit x ≡ true) (decimal n)
  pub back : decimal_from 0 (decimal n) ≡ n
  pub zeroless : 1 ≤ n → (s : List ℕ) → decimal n ≢ code "0" ∷ s

says_small : (n : ℕ) → n < 10 → Says n
says_small n h = let small = decimal_small n h in record {
  some = rw small cons≢nil;
  digits = rw small (all_cons (digit_is n h) all_nil);
  back = rw small (omega arith);
  zeroless = λ m s e. let z : 48 + n ≡ 48 = cc in absurd (omega arith);
}

says_more : (n : ℕ) → 10 ≤ n → Says (n / 10) → Says n
says_more n h tens =
    let more = decimal_more n h in
    let last : n % 10 < 10 = omega arith in record {
      some = λ e. nonempty (decimal (n / 10)) (sym more ∙ e);
      digits = rw more (All-join tens.digits (all_cons (digit_is (n % 10) last) all_nil));
      back = rw (more, from_last 0 (digit (n % 10)) (decimal (n / 10)), tens.back) (omega (arith, div-add-mod' n 10));
      zeroless = λ m s e.
          let k = begun (decimal (n / 10)) (digit (n % 10) ∷ []) s (code "0") tens.some (sym more ∙ e) in
          tens.zeroless (omega arith) k.0 k.1;
    }
  where
    nonempty : (a : List ℕ) → a ++ (digit (n % 10) ∷ []) ≡ [] → ⊥
    nonempty [] e = cons≢nil e
    nonempty (x ∷ a) e = cons≢nil e

pub says : (n : ℕ) → Says n
says = by_tens Says says_small says_more

pub decimal_some : (n : ℕ) → 1 ≤ length (decimal n)
decimal_some n = go (decimal n) (says n).some
  where
    go : (s : List ℕ) → s ≢ [] → 1 ≤ length s
    go [] h = absurd (h refl)
    go (x ∷ s) h = omega arith

pub decimals : Decimals
decimals n = let h = says n in (h.some, h.digits, h.back, λ s e. by (ltb n 10) refl s e)
  where
    by : (t : Bool) → ltb n 10 ≡ t → (s : List ℕ) → decimal n ≡ code "0" ∷ s → s ≡ []
    by true t s e = let small = decimal_small n (ltb-true n 10 t) in cc
    by false t s e = let m = ltb-false n 10 t in absurd ((says n).zeroless (omega arith) s e)
