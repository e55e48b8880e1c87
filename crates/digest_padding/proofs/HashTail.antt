-- For callers of `put_tail`: a hash value is that after the whole blocks of the message, and then after the tail.
use Prim.Native.Nat.{ℕ, ◌*◌, ◌≤◌, ◌<◌}
use native.Mathlib.Omega.{arith}
use mathlib.Core.Path.{◌≡◌, sym, ◌∙◌}
use mathlib.Core.List.{List}
use lib.ListN.{length, take, drop, length-append}
use lib.Seq.{take-append_seam}
use Rattle.spec_octets.specs.Buffer.{Put, filled, filled_length}
use Rattle.text_buffer.proofs.LentRest.{put_length}
use Rattle.text_buffer.proofs.Filled.{put_room}
use Rattle.spec_digest.specs.Family.{State, Member, absorbed, hash_value}
use Rattle.spec_digest.proofs.BlockLaws.{hash_by_parts}
use Rattle.spec_digest.proofs.PaddingLaws.{tail_room}
use Rattle.digest_padding.specs.Tails.{tail}

module _ (n : ℕ) (s d : List ℕ) (some_octets : 0 < n) (room : 2 * (16 * n) ≤ length d) where
  fits : length (tail n s) ≤ length d
  unfolding tail
  fits = rw length-append (omega (arith, tail_room n s some_octets))

  module _ (x : List ℕ) (k : ℕ) (octets : x ≡ filled (tail n s) d) (answer : k ≡ filled_length (tail n s) d) where
    placed : Put (tail n s) d x k
    placed = put_room (tail n s) d fits x k octets answer

    pub tail_front : take k x ≡ tail n s
    tail_front = rw (placed.octets, placed.count) (take-append_seam (tail n s) (drop (length (tail n s)) d))

    pub tail_within : k ≤ length x
    tail_within = omega (arith, placed.count, put_length placed fits, fits)

module _ (m : Member) (some_octets : 0 < m.word_octets) (s d : List ℕ) (room : 2 * (16 * m.word_octets) ≤ length d) where
  pub hash_with_tail :
      (x : List ℕ) (k : ℕ) (v w r : State) → v ≡ m.initial → w ≡ absorbed m v s → x ≡ filled (tail m.word_octets s) d →
      k ≡ filled_length (tail m.word_octets s) d → r ≡ absorbed m w (take k x) → r ≡ hash_value m s
  unfolding tail
  hash_with_tail x k v w r start front octets answer e =
      e ∙ rw (tail_front m.word_octets s d some_octets room x k octets answer, front, start) (sym (hash_by_parts m some_octets s))
