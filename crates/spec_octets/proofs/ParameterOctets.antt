-- The octets of a parameter's value; a number in three digits; a buffer with octets written at its start.
use Prim.Native.Nat.{◌/◌, ◌%◌}
use native.Mathlib.Omega.{arith}
use mathlib.Core.Path.{refl}
use mathlib.Core.Bool.{not, and-eq-true_iff}
use lib.Dec.{leb, eqb}
use lib.ListN.{length}
use borrow.Author.Tests.{leb-true, le-leb, lt-leb, eqb-false, ne_eqb, not-true}
use Rattle.spec_octets.specs.Lists.{all_nil, all_cons}
use Rattle.spec_octets.specs.Octets.{between, is_parameter_octet}
use Rattle.spec_octets.specs.Buffer.{filled, filled_length}
use Rattle.spec_octets.specs.Theorems.{ParameterOctets, ThreeDigits}
use Rattle.spec_octets.specs.Pinned.{BufferFilled}
use Rattle.spec_octets.proofs.WrittenDecimals.{digit_is}

pub parameter_octets : ParameterOctets
unfolding is_parameter_octet
parameter_octets x =
    let both = and-eq-true_iff (between 33 126 x) (not (eqb x 59)) in
    let bounds = and-eq-true_iff (leb 33 x) (leb x 126) in (
      λ e. let k = both.0 e in
          let j = bounds.0 k.0 in (leb-true 33 x j.0, leb-true x 126 j.1, eqb-false x 59 (not-true (eqb x 59) k.1)),
      λ k. both.1 (bounds.1 (le-leb 33 x k.0, le-leb x 126 k.1), rw (ne_eqb x 59 k.2)),
    )

pub three_digits_lem : ThreeDigits
three_digits_lem n h =
    (refl, all_cons (digit_is (n / 100) (omega arith)) (all_cons (digit_is (n / 10 % 10) (omega arith)) (all_cons (digit_is (n % 10) (omega arith)) all_nil)), omega arith)

pub buffer_filled : BufferFilled
unfolding filled filled_length
buffer_filled e d =
    (λ h. (rw (le-leb (length e) (length d) h) refl, rw (le-leb (length e) (length d) h) refl), λ h. (rw (lt-leb (length e) (length d) h) refl, rw (lt-leb (length e) (length d) h) refl))
