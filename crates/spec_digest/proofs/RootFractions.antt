-- The constants are from the roots of primes: a test of whole numbers that is computed, and what it says.
use Prim.Native.Nat.{ℕ, zero, suc, ◌+◌, ◌*◌, ◌^◌, ◌<◌}
use native.Mathlib.Nat.{mul-add-mod_self_right, mod-eq_of_lt}
use native.Mathlib.Omega.{arith}
use mathlib.Core.Path.{◌≡◌, refl, sym, ◌∙◌}
use mathlib.Core.Bool.{Bool, true, false, ◌&&◌, and-eq-true_iff, false≢true}
use mathlib.Core.List.{List, [], ◌∷◌}
use lib.Dec.{leb, ltb}
use lib.ListN.{length, get_or}
use borrow.Author.Tests.{leb-true, ltb-true}
use Rattle.spec_octets.specs.Lists.{any}
use Rattle.spec_octets.proofs.ListLaws.{any_true}
use Rattle.spec_digest.specs.Family.{state_words}
use Rattle.spec_digest.specs.Members.{initial256, constants256, initial512, constants512}
use Rattle.spec_digest.specs.Roots.{primes, RootFraction, count_from}
use Rattle.spec_digest.specs.Theorems.{ConstantsFromPrimes}

module _ (r w : ℕ) where
  -- the root lies between v and v + 1, both divided by 2 ^ w
  abbrev is_root : ℕ → ℕ → Bool
  is_root p v = leb (v ^ r) (p * 2 ^ (r * w)) && ltb (p * 2 ^ (r * w)) ((v + 1) ^ r)

  -- k is the fraction, with a whole part below 8
  abbrev is_fraction : ℕ → ℕ → Bool
  is_fraction p k = ltb k (2 ^ w) && any (λ i. is_root p (i * 2 ^ w + k)) (count_from 8 0)

  fraction : (p k : ℕ) → is_fraction p k ≡ true → RootFraction r w p k
  fraction p k e =
      let (small, some) = (and-eq-true_iff (ltb k (2 ^ w)) (any (λ i. is_root p (i * 2 ^ w + k)) (count_from 8 0))).0 e in
      let (i, member, root) = (any_true (λ i. is_root p (i * 2 ^ w + k)) (count_from 8 0)).0 some in
      found i small root
    where
      found : (i : ℕ) → ltb k (2 ^ w) ≡ true → is_root p (i * 2 ^ w + k) ≡ true → RootFraction r w p k
      found i small root =
          let v = i * 2 ^ w + k in
          let (low, high) = (and-eq-true_iff (leb (v ^ r) (p * 2 ^ (r * w))) (ltb (p * 2 ^ (r * w)) ((v + 1) ^ r))).0 root in (
            v,
            leb-true (v ^ r) (p * 2 ^ (r * w)) low,
            ltb-true (p * 2 ^ (r * w)) ((v + 1) ^ r) high,
            sym (mul-add-mod_self_right i (2 ^ w) k ∙ mod-eq_of_lt (ltb-true k (2 ^ w) small)),
          )

  -- each k is the fraction of its p
  abbrev are_fractions : List ℕ → List ℕ → Bool
  are_fractions ps [] = true
  are_fractions [] (k ∷ ks) = false
  are_fractions (p ∷ ps) (k ∷ ks) = is_fraction p k && are_fractions ps ks

  fractions : (ps ks : List ℕ) → are_fractions ps ks ≡ true → (t : ℕ) → t < length ks → RootFraction r w (get_or ps t 0) (get_or ks t 0)
  fractions ps [] e t h = absurd (omega arith)
  fractions [] (k ∷ ks) e t h = absurd (false≢true e)
  fractions (p ∷ ps) (k ∷ ks) e zero h = fraction p k ((and-eq-true_iff (is_fraction p k) (are_fractions ps ks)).0 e).0
  fractions (p ∷ ps) (k ∷ ks) e (suc t) h = fractions ps ks ((and-eq-true_iff (is_fraction p k) (are_fractions ps ks)).0 e).1 t (omega arith)

pub constants_from_primes : ConstantsFromPrimes
unfolding primes initial256 constants256 initial512 constants512
constants_from_primes = (
  refl,
  refl,
  refl,
  fractions 2 32 primes (state_words initial256) refl,
  fractions 2 64 primes (state_words initial512) refl,
  fractions 3 32 primes constants256 refl,
  fractions 3 64 primes constants512 refl,
)
