-- The two digits of an octet in a buffer.
use Prim.Native.Nat.{ℕ, ◌+◌, ◌-◌, ◌/◌, ◌%◌, ◌≤◌, ◌<◌}
use mathlib.Core.Path.{◌≡◌}
use mathlib.Core.List.{List}
use lib.ListN.{length, set}
use borrow.Author.Tests.{lt-ltb, le-ltb}
use Rattle.spec_octets.specs.Buffer.{filled, filled_length}
use Rattle.text_buffer.proofs.Filled.{no_room_answer, no_room_octets, put_answer, put_octets}
use Rattle.text_buffer.proofs.LentRest.{put_two}
use Rattle.spec_tlsa_line.specs.Hex.{hex_digit, hex_octet}

pub low_digit : (d : ℕ) → d < 10 → 48 + d ≡ hex_digit d
low_digit d h = rw (lt-ltb d 10 h)

pub high_digit : (d : ℕ) → 10 ≤ d → 97 + (d - 10) ≡ hex_digit d
high_digit d h = rw (le-ltb d 10 h)

module _ (b : ℕ) (d : List ℕ) where
  pub no_digits_answer : length d < 2 → 0 ≡ filled_length (hex_octet b) d
  no_digits_answer h = no_room_answer (hex_octet b) d h

  pub no_digits_octets : length d < 2 → d ≡ filled (hex_octet b) d
  no_digits_octets h = no_room_octets (hex_octet b) d h

  module _ (room : 2 ≤ length d) where
    pub digits_answer : 2 ≡ filled_length (hex_octet b) d
    digits_answer = put_answer (hex_octet b) d room (set (set d 0 (hex_digit (b / 16))) 1 (hex_digit (b % 16))) 2 (put_two _ _ d room)

    pub digits_octets : (h l : ℕ) → h ≡ hex_digit (b / 16) → l ≡ hex_digit (b % 16) → set (set d 0 h) 1 l ≡ filled (hex_octet b) d
    digits_octets h l e f = rw (e, f) (put_octets (hex_octet b) d room (set (set d 0 (hex_digit (b / 16))) 1 (hex_digit (b % 16))) 2 (put_two _ _ d room))
