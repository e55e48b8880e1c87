-- A loop that writes one octet for each octet of a text: the octets before the current offset are written.
use Prim.Native.Nat.{ℕ, ◌+◌, ◌≤◌, ◌<◌}
use native.Mathlib.Numerals.{add-one}
use native.Mathlib.Omega.{arith}
use mathlib.Core.Path.{◌≡◌, refl}
use mathlib.Core.List.{List}
use lib.ListN.{length, take, get_or, set}
use lib.Seq.{take-suc, take_all}
use borrow.Author.Tests.{le-leb}
use Rattle.spec_octets.specs.Buffer.{Put, filled, filled_length}
use Rattle.text_buffer.proofs.LentRest.{put_octet}
use Rattle.text_buffer.proofs.Filled.{put_octets}

module _ (s d x : List ℕ) (i : ℕ) (room : length s ≤ length d) where
  pub octets_turn :
      (b : ℕ) → Put (take i s) d x i → i < length s → length x ≡ length d → b ≡ get_or s i 0 → Put (take (i + 1) s) d (set x i b) (i + 1)
  octets_turn b p h same e = put_octet p b (take (i + 1) s) (omega arith) (rw (add-one, e) (take-suc s i 0 h))

  pub octets_answer : length s ≡ filled_length s d
  unfolding filled_length
  octets_answer = rw (le-leb (length s) (length d) room) refl

  module _ (through : length s ≤ i) (p : Put (take i s) d x i) where
    pub octets_there : x ≡ filled s d
    octets_there = put_octets s d room x i (rw (take_all i s through) at p)
