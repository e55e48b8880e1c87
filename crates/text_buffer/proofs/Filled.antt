-- What a function returns that writes all its octets or none: if they fit, and if they don't.
use Prim.Native.Nat.{ℕ, ◌≤◌, ◌<◌}
use mathlib.Core.Path.{◌≡◌}
use mathlib.Core.List.{List}
use lib.ListN.{length}
use borrow.Author.Tests.{le-leb, lt-leb}
use Rattle.spec_octets.specs.Buffer.{Put, filled, filled_length}

module _ (e d : List ℕ) where
  module _ (short : length d < length e) where
    pub no_room_answer : 0 ≡ filled_length e d
    unfolding filled_length
    no_room_answer = rw (lt-leb (length e) (length d) short)

    pub no_room_octets : d ≡ filled e d
    unfolding filled
    no_room_octets = rw (lt-leb (length e) (length d) short)

  module _ (room : length e ≤ length d) (x : List ℕ) (n : ℕ) where
    module _ (p : Put e d x n) where
      pub put_answer : n ≡ filled_length e d
      unfolding filled_length
      put_answer = rw (le-leb (length e) (length d) room) p.count

      pub put_octets : x ≡ filled e d
      unfolding filled
      put_octets = rw (le-leb (length e) (length d) room) p.octets

    -- for callers: with room, the octets are put
    pub put_room : x ≡ filled e d → n ≡ filled_length e d → Put e d x n
    unfolding filled filled_length
    put_room f g = record { count = rw (le-leb (length e) (length d) room) at g; octets = rw (le-leb (length e) (length d) room) at f }
