-- The length of a value in quotes, counted octet by octet, and of a line; both are far below the largest usize.
use Prim.Native.Nat.{ℕ, ◌+◌, ◌≤◌, ◌<◌}
use native.Mathlib.Omega.{arith}
use mathlib.Core.Path.{◌≡◌}
use mathlib.Core.List.{List}
use lib.ListN.{length, drop, get_or, length-append, length-map, drop_of_length-le}
use mir.Syntax.{w8, w64}
use mir.Val.{Fits}
use Rattle.spec_limits.specs.Limits.{max_data_octets}
use Rattle.spec_octets.specs.WrittenDecimal.{decimal}
use Rattle.spec_line.specs.Written.{escaped}
use Rattle.spec_line.proofs.LineLength.{value_short, flags_short}
use Rattle.line_property.specs.Places.{escaped_value, line_of}
use Rattle.line_property.proofs.ValueLoops.{left_step}
use Rattle.line_property.proofs.LineParts.{in_parts}

module _ (v : List ℕ) (n i : ℕ) (left : n + length (escaped_value (drop i v)) ≡ length (escaped_value v)) where
  pub measure_end : length v ≤ i → n ≡ length (escaped_value v)
  measure_end h = omega (arith, rw (drop_of_length-le v h) at left)

  module _ (r : ℕ) (h : i < length v) (e : r ≡ length (escaped (get_or v i 0))) where
    pub measure_turn : n + r + length (escaped_value (drop (i + 1) v)) ≡ length (escaped_value v)
    measure_turn = omega (arith, left_step v i h)

    pub measure_fits : length v ≤ max_data_octets → Fits w64 (n + r)
    unfolding max_data_octets
    measure_fits few = record { fits = omega (arith, left_step v i h, value_short v) }

-- the whole line
module _ (f : ℕ) (t : List ℕ) (a : ℕ) (flags : a ≡ length (decimal f)) (octet : Fits w8 f) (short : length t ≤ max_data_octets) where
  pub tag_fits : Fits w64 (a + length t)
  unfolding max_data_octets
  tag_fits = record { fits = omega (arith, flags_short f octet.fits) }

  module _ (v : List ℕ) (b : ℕ) (value : b ≡ length (escaped_value v)) where
    pub line_measured : a + length t + b + 4 ≡ length (line_of f t v)
    line_measured = simp (in_parts, length-append, length-map) (omega arith)

    module _ (few : length v ≤ max_data_octets) where
      pub value_fits : Fits w64 (a + length t + b)
      unfolding max_data_octets
      value_fits = record { fits = omega (arith, flags_short f octet.fits, value_short v) }

      pub line_fits : Fits w64 (a + length t + b + 4)
      unfolding max_data_octets
      line_fits = record { fits = omega (arith, flags_short f octet.fits, value_short v) }
