-- Rotating a word.
use Prim.Native.Nat.{ℕ, ◌+◌, ◌-◌, ◌*◌, ◌/◌, ◌%◌, ◌^◌, ◌<◌}
use native.Mathlib.Nat.{add-zero, mul-mod_left}
use native.Mathlib.Omega.{arith}
use mathlib.Core.Path.{◌≡◌, ap, subst, ◌∙◌}
use lib.Pow.{shl-shr, shr_lt, mod-pow-add}
use lib.Bits.{or_shifted_r}
use Rattle.spec_digest.specs.Words.{rotate_right}
use Rattle.spec_digest.specs.Theorems.{RotationMovesBits}

pub rotation_moves_bits : RotationMovesBits
unfolding rotate_right
rotation_moves_bits w n x h small = rw shifted (or_shifted_r (x % 2 ^ n) (w - n) (x / 2 ^ n) high)
  where
    whole : w ≡ n + (w - n)
    whole = omega arith

    back : w ≡ (w - n) + n
    back = omega arith

    shifted : x * 2 ^ (w - n) % 2 ^ w ≡ x % 2 ^ n * 2 ^ (w - n)
    shifted =
        ap (λ (k : ℕ). x * 2 ^ (w - n) % 2 ^ k) whole ∙ mod-pow-add (x * 2 ^ (w - n)) n (w - n)
        ∙ rw (shl-shr x (w - n), mul-mod_left x (2 ^ (w - n)), add-zero)

    high : x / 2 ^ n < 2 ^ (w - n)
    high = shr_lt (w - n) n (subst (λ (k : ℕ). x < 2 ^ k) back small)
