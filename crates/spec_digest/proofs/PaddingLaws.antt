-- The padding fills the last block.
use Prim.Native.Nat.{ℕ, zero, suc, ◌+◌, ◌-◌, ◌*◌, ◌/◌, ◌%◌, ◌≤◌, ◌<◌}
use native.Mathlib.Nat.{div-add-mod', mod-lt, mul-div_cancel, mod-eq_of_lt, mul-add-mod_self_right, div-lt_iff_lt-mul, div-mul-le_self, mul-le-mul_right, le_of_eq}
use native.Mathlib.Omega.{arith}
use mathlib.Core.Path.{◌≡◌, refl, sym}
use mathlib.Core.List.{List, ◌∷◌, ◌++◌}
use lib.ListN.{length, drop, replicate, length-append, length-replicate, length-drop}
use lib.Seq.{drop-append-add}
use Rattle.spec_octets.specs.Reader.{in_octets}
use Rattle.spec_octets.proofs.Numbers.{length_in_octets, numbers_written}
use Rattle.spec_digest.specs.Padding.{zeros, padding, padded, blocks}
use Rattle.spec_digest.specs.Theorems.{PaddingForm, PaddingLength, BlocksJoin}
use Rattle.spec_digest.proofs.CutLaws.{flatten_cut, pieces_long}

module _ (n l : ℕ) (some_octets : 0 < n) where
  abbrev rest : ℕ
  rest = (l + 2 * n) % (16 * n)

  abbrev whole : ℕ
  whole = (l + 2 * n) / (16 * n) * (16 * n)

  below : rest < 16 * n
  below = mod-lt (l + 2 * n) (omega arith)

  parts : whole + rest ≡ l + 2 * n
  parts = div-add-mod' (l + 2 * n) (16 * n)

  pub zeros_below : zeros n l < 16 * n
  unfolding zeros
  zeros_below = omega (arith, below)

  -- up to the length field, and in all
  pub zeros_fill : l + 1 + zeros n l ≡ whole + 14 * n
  unfolding zeros
  zeros_fill = omega (arith, below, parts)

  pub padding_fills : l + length (padding n l) ≡ whole + 16 * n
  unfolding padding
  padding_fills = rw (length-append, length-replicate, length_in_octets) (omega (arith, zeros_fill))

pub padding_form : PaddingForm
unfolding padded padding
padding_form n s h = (
  refl,
  rw (zeros_fill n (length s) h, mul-add-mod_self_right ((length s + 2 * n) / (16 * n)) (16 * n) (14 * n)) (mod-eq_of_lt (omega arith)),
  zeros_below n (length s) h,
)

pub padding_length : PaddingLength
unfolding padded padding
padding_length n s h =
    rw (at_length, drop-append-add s _ (suc (zeros n (length s))), field (zeros n (length s))) (numbers_written (2 * n) (8 * length s) h).2
  where
    at_length : length s + 1 + zeros n (length s) ≡ length s + suc (zeros n (length s))
    at_length = omega arith

    field : (z : ℕ) → drop (suc z) (128 ∷ (replicate z 0 ++ in_octets (2 * n) (8 * length s))) ≡ in_octets (2 * n) (8 * length s)
    field zero = refl
    field (suc z) = field z

-- how many blocks
padded_long : (n : ℕ) (s : List ℕ) → 0 < n → length (padded n s) ≡ ((length s + 2 * n) / (16 * n) + 1) * (16 * n)
unfolding padded
padded_long n s h = rw length-append (omega (arith, padding_fills n (length s) h))

padded_blocks : (n : ℕ) (s : List ℕ) → 0 < n → length (padded n s) / (16 * n) * (16 * n) ≡ length (padded n s)
padded_blocks n s h = rw (padded_long n s h, mul-div_cancel ((length s + 2 * n) / (16 * n) + 1) {n = 16 * n} (omega arith))

pub blocks_join : BlocksJoin
unfolding blocks
blocks_join n s h = (
  flatten_cut (16 * n) (length (padded n s) / (16 * n)) (padded n s) (sym (padded_blocks n s h)),
  pieces_long (16 * n) (length (padded n s) / (16 * n)) (padded n s) (le_of_eq (padded_blocks n s h)),
)

-- what a message leaves behind its last whole block, with its padding, is one block or two
pub tail_room :
    (n : ℕ) (s : List ℕ) → 0 < n → length (drop (length s / (16 * n) * (16 * n)) s) + length (padding n (length s)) ≤ 2 * (16 * n)
tail_room n s h =
    rw length-drop (blocks_of_tail (length s / (16 * n)) ((length s + 2 * n) / (16 * n)) (16 * n) quotient (div-mul-le_self (length s) (16 * n)) (padding_fills n (length s) h))
  where
    -- one block or two: less than three
    quotient : (length s + 2 * n) / (16 * n) < length s / (16 * n) + 2
    quotient = (div-lt_iff_lt-mul {k = 16 * n} (omega arith)).1 (omega (arith, div-add-mod' (length s) (16 * n), mod-lt (length s) {m = 16 * n} (omega arith)))

    blocks_of_tail :
        (q p b : ℕ) → p < q + 2 → q * b ≤ length s → length s + length (padding n (length s)) ≡ p * b + b →
        length s - q * b + length (padding n (length s)) ≤ 2 * b
    blocks_of_tail q p b few under fills = omega (arith, mul-le-mul_right b few)
