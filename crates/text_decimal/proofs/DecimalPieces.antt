-- Counting the digits of a number, and writing them at the start of a buffer.
use Prim.Native.Nat.{ℕ, ◌+◌, ◌/◌, ◌%◌, ◌^◌, ◌≤◌, ◌<◌}
use native.Mathlib.Omega.{arith}
use mathlib.Core.Path.{◌≡◌}
use mathlib.Core.List.{List}
use lib.ListN.{length, set, length-append}
use mir.Syntax.{w64}
use mir.Val.{Fits}
use Rattle.spec_octets.specs.WrittenDecimal.{decimal}
use Rattle.spec_octets.proofs.WrittenDecimals.{decimal_small, decimal_more, decimal_within_lem, decimal_some}
use Rattle.spec_octets.specs.Buffer.{Put, filled, filled_length}
use Rattle.text_buffer.proofs.Filled.{no_room_answer, no_room_octets, put_answer, put_octets}
use Rattle.text_buffer.proofs.LentRest.{put_length, put_octet, put_one}

-- As few as it takes.

-- a number of 64 bits has at most 20
pub decimal_few : (n : ℕ) → Fits w64 n → length (decimal n) ≤ 20
decimal_few n f = decimal_within_lem 19 n (omega (arith, f.fits))

one_more_lem : (n : ℕ) → 10 ≤ n → length (decimal n) ≡ length (decimal (n / 10)) + 1
one_more_lem n h = rw (decimal_more n h, length-append)

-- Counted from the last: what is left has one digit more than is still to be counted.
module _ (n count left : ℕ) (counted : count + length (decimal left) ≡ length (decimal n) + 1) where
  pub count_fits : Fits w64 n → Fits w64 (count + 1)
  count_fits f = record { fits = omega (arith, decimal_few n f) }

  pub count_turn : 10 ≤ left → count + 1 + length (decimal (left / 10)) ≡ length (decimal n) + 1
  count_turn h = omega (arith, one_more_lem left h)

  pub count_end : left < 10 → count ≡ length (decimal n)
  count_end h = omega (arith, rw (decimal_small left h) at counted)

-- Put: one digit, or the tens and then the last digit.
module _ (n : ℕ) (d : List ℕ) (room : length (decimal n) ≤ length d) where
  pub digit_room : 0 < length d
  digit_room = omega (arith, decimal_some n)

  pub digit_put : n < 10 → Put (decimal n) d (set d 0 (48 + n)) 1
  digit_put h = rw (decimal_small n h) (put_one (48 + n) d digit_room)

  module _ (h : 10 ≤ n) where
    pub tens_room : length (decimal (n / 10)) ≤ length d
    tens_room = omega (arith, one_more_lem n h)

    module _ (x : List ℕ) (w : ℕ) (tens : Put (decimal (n / 10)) d x w) where
      pub last_room : w < length x
      last_room = omega (arith, one_more_lem n h, tens.count, put_length tens tens_room)

      pub last_fits : length d < 2 ^ 64 → Fits w64 (w + 1)
      last_fits f = record { fits = omega (arith, one_more_lem n h, tens.count) }

      pub last_put : Put (decimal n) d (set x w (48 + n % 10)) (w + 1)
      last_put = put_octet tens (48 + n % 10) (decimal n) last_room (decimal_more n h)

-- the whole of it, or nothing
module _ (n : ℕ) (d : List ℕ) (count : ℕ) (told : count ≡ length (decimal n)) where
  module _ (short : length d < count) where
    pub no_digits_answer : 0 ≡ filled_length (decimal n) d
    no_digits_answer = no_room_answer (decimal n) d (rw told at short)

    pub no_digits_octets : d ≡ filled (decimal n) d
    no_digits_octets = no_room_octets (decimal n) d (rw told at short)

  module _ (fits : count ≤ length d) where
    pub digits_room : length (decimal n) ≤ length d
    digits_room = rw told at fits

    module _ (x : List ℕ) (r : ℕ) (p : Put (decimal n) d x r) where
      pub digits_answer : r ≡ filled_length (decimal n) d
      digits_answer = put_answer (decimal n) d digits_room x r p

      pub digits_octets : x ≡ filled (decimal n) d
      digits_octets = put_octets (decimal n) d digits_room x r p
