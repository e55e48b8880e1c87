-- Words of w bits, as numbers below 2 ^ w, and the functions on them (FIPS 180-4 sections 2.2.2, 3.2 and 4.1).
use Rattle.std.specs.Prelude.{ℕ, ◌+◌, ◌-◌, ◌*◌, ◌/◌, ◌%◌, ◌^◌}
use Rattle.std.specs.Int.Bits.{bit_and, bit_or, bit_xor}

-- Maj: each bit is the one that most of the three words have there.
unfoldable pub majority : ℕ → ℕ → ℕ → ℕ
majority x y z = bit_xor (bit_xor (bit_and x y) (bit_and x z)) (bit_and y z)

module _ (w : ℕ) where
  -- Addition modulo 2 ^ w.
  unfoldable pub plus : ℕ → ℕ → ℕ
  plus x y = (x + y) % 2 ^ w

  -- The complement: every bit is inverted.
  unfoldable pub complement : ℕ → ℕ
  complement x = 2 ^ w - 1 - x

  -- ROTR: rotates x to the right by n bits.
  unfoldable pub rotate_right : ℕ → ℕ → ℕ
  rotate_right n x = bit_or (x / 2 ^ n) (x * 2 ^ (w - n) % 2 ^ w)

  -- Ch: where x has a 1 bit, the bit of y; else the bit of z.
  unfoldable pub choose : ℕ → ℕ → ℕ → ℕ
  choose x y z = bit_xor (bit_and x y) (bit_and (complement x) z)

  -- Three rotations of x, combined.
  unfoldable pub rotations : ℕ × ℕ × ℕ → ℕ → ℕ
  rotations n x = bit_xor (bit_xor (rotate_right n.0 x) (rotate_right n.1 x)) (rotate_right n.2 x)

  -- Two rotations of x and its shift to the right (SHR), combined.
  unfoldable pub rotations_and_shift : ℕ × ℕ × ℕ → ℕ → ℕ
  rotations_and_shift n x = bit_xor (bit_xor (rotate_right n.0 x) (rotate_right n.1 x)) (x / 2 ^ n.2)
