-- Which octets of a value need no escape, what written octets stand for, and how a line is written, octet by octet.
use Prim.Native.Nat.{ℕ, ◌/◌, ◌%◌, ◌≤◌, ◌<◌}
use native.Mathlib.Omega.{arith}
use mathlib.Core.Path.{◌≡◌, refl}
use mathlib.Core.Logic.{◌⊎◌, inl, inr}
use mathlib.Core.Bool.{Bool, true, false, ◌&&◌, ◌||◌, not, and-eq-true_iff, and-false}
use mathlib.Core.List.{[], ◌∷◌, append_assoc}
use lib.Dec.{leb, eqb}
use borrow.Author.Tests.{leb-true, le-leb, lt-leb, eqb-false, ne_eqb, not-true}
use Rattle.spec_octets.specs.Lists.{all_nil, all_cons}
use Rattle.spec_octets.specs.Octets.{between}
use Rattle.spec_octets.proofs.ListLaws.{or_eq_false}
use Rattle.spec_octets.proofs.WrittenDecimals.{digit_is, decimals}
use Rattle.spec_octets.specs.WrittenDecimal.{three_digits}
use Rattle.spec_line.specs.Written.{escaped, line}
use Rattle.spec_line.specs.Read.{is_in_quotes, is_bare}
use Rattle.spec_line.specs.Theorems.{PlainOctets, OctetAsWritten}
use Rattle.spec_line.specs.Pinned.{WrittenOctetValues, LineAsWritten}
use Rattle.spec_line.proofs.WrittenParts.{flags_written}

-- a range of octets, and a test that none of the others passes
ranged : (low x : ℕ) (t : Bool) → between low 126 x && not t ≡ true → (low ≤ x) × (x ≤ 126) × (t ≡ false)
ranged low x t h =
    let (range, other) = (and-eq-true_iff (between low 126 x) (not t)).0 h in
    let (above, below) = (and-eq-true_iff (leb low x) (leb x 126)).0 range in
    (leb-true low x above, leb-true x 126 below, not-true t other)

pub plain_octets : PlainOctets
unfolding is_in_quotes is_bare
plain_octets x = (
  (
    λ h. let (low, high, none) = ranged 32 x (eqb x 34 || eqb x 92) h in
        let (a, b) = (or_eq_false (eqb x 34) (eqb x 92)).0 none in
        (low, high, eqb-false x 34 a, eqb-false x 92 b),
    λ (low, high, a, b). rw (le-leb 32 x low, le-leb x 126 high, ne_eqb x 34 a, ne_eqb x 92 b),
  ),
  (
    λ h. let (low, high, none) = ranged 33 x _ h in
        let (abcd, e) = (or_eq_false _ (eqb x 41)).0 none in
        let (abc, d) = (or_eq_false _ (eqb x 40)).0 abcd in
        let (ab, c) = (or_eq_false _ (eqb x 59)).0 abc in
        let (a, b) = (or_eq_false (eqb x 34) (eqb x 92)).0 ab in
        (low, high, eqb-false x 34 a, eqb-false x 92 b, eqb-false x 59 c, eqb-false x 40 d, eqb-false x 41 e),
    λ (low, high, a, b, c, d, e). rw (le-leb 33 x low, le-leb x 126 high, ne_eqb x 34 a, ne_eqb x 92 b, ne_eqb x 59 c, ne_eqb x 40 d, ne_eqb x 41 e),
  ),
)

pub written_octet_values : WrittenOctetValues
written_octet_values x a b c = (refl, refl, omega arith)

pub octet_as_written : OctetAsWritten
unfolding escaped
octet_as_written x = (
  λ (low, high, a, b). rw (ne_eqb x 34 a, ne_eqb x 92 b, le-leb 32 x low, le-leb x 126 high),
  special,
  λ small far. (_, _, _, other far, all_cons (digit_is (x / 100) (omega arith)) (all_cons (digit_is (x / 10 % 10) (omega arith)) (all_cons (digit_is (x % 10) (omega arith)) all_nil)), omega arith),
)
  where
    special : (x ≡ 34) ⊎ (x ≡ 92) → escaped x ≡ 92 ∷ x ∷ []
    special (inl e) = rw e
    special (inr e) = rw e

    outside : (x < 32) ⊎ (126 < x) → between 32 126 x ≡ false
    outside (inl h) = rw (lt-leb 32 x h)
    outside (inr h) = rw (lt-leb x 126 h, and-false)

    unlike : (c : ℕ) → 32 ≤ c → c ≤ 126 → (x < 32) ⊎ (126 < x) → eqb x c ≡ false
    unlike c low high (inl h) = ne_eqb x c (λ e. omega arith)
    unlike c low high (inr h) = ne_eqb x c (λ e. omega arith)

    other : (x < 32) ⊎ (126 < x) → escaped x ≡ 92 ∷ three_digits x
    other far = rw (unlike 34 (omega arith) (omega arith) far, unlike 92 (omega arith) (omega arith) far, outside far)

pub line_as_written : LineAsWritten
unfolding line
line_as_written p = (simp append_assoc, λ h. (flags_written p.flags h, (decimals p.flags).3))
