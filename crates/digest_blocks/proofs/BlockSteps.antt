-- The steps of the loops, at the words of any member of the family.
use native.Mathlib.Nat.{mul-le-mul_right}
use Rattle.std.proofs.Common.{◌≡◌, ℕ, ◌+◌, ◌-◌, ◌*◌, ◌<◌, List, ◌++◌, map, length, take, drop, sym, ap, ◌∙◌, arith}
use Rattle.std.proofs.Math.ListN.{set, length-append}
use lib.Seq.{length-take-le, take-append_seam, drop-append_seam}
use Rattle.std.proofs.lemmas.List.{length-drop, length-map, map-set}
use Rattle.spec_octets.specs.Reader.{value_from}
use Rattle.spec_digest.specs.Padding.{cut, block_words}
use Rattle.spec_digest.specs.Family.{State, Member, rounds, extended, added, compress, absorbed}
use Rattle.spec_digest.proofs.CutLaws.{words_turn}
use Rattle.spec_digest.proofs.BlockLaws.{absorbed_none, absorbed_one}
use Rattle.spec_digest.proofs.RoundLaws.{compress_steps}
use Rattle.digest_words.specs.Joined.{joined_in}
use Rattle.digest_words.proofs.JoinedLaws.{joined_word}
use Rattle.digest_blocks.specs.Compressed.{compressed_by}
use Rattle.digest_blocks.proofs.CompressedLaws.{compressed_block, compressed_none}

module _ {W : Type 0} (number : W → ℕ) (m : Member) where
  -- word t of a block, loaded
  pub word_turn :
      (block : List ℕ) (ws : List W) (t o : ℕ) (x : W) → take t (map number ws) ≡ map (value_from 0) (cut t m.word_octets block) → t < length ws →
      t < 16 → length block ≡ 16 * m.word_octets → o ≡ m.word_octets → number x ≡ joined_in m (take (t * o + o - t * o) (drop (t * o) block)) →
      take (t + 1) (map number (set ws t x)) ≡ map (value_from 0) (cut (t + 1) m.word_octets block)
  word_turn block ws t o x before within few long width e =
      rw (map-set number ws t x)
      (words_turn m.word_octets block (map number ws) t (number x) before (rw length-map within)
      (e ∙ ap (λ (k : ℕ). joined_in m (take k (drop (t * o) block))) whole ∙ ap (λ (k : ℕ). joined_in m (take m.word_octets (drop (t * k) block))) width
      ∙ joined_word m (take m.word_octets (drop (t * m.word_octets) block)) full))
    where
      whole : t * o + o - t * o ≡ m.word_octets
      whole = omega arith

      full : length (take m.word_octets (drop (t * m.word_octets) block)) ≡ m.word_octets
      full = length-take-le m.word_octets (drop (t * m.word_octets) block) (rw length-drop (omega (arith, mul-le-mul_right m.word_octets few)))

  -- one block: its words loaded, extended, the rounds, the sum
  pub block_steps :
      (v w r : State) (block : List ℕ) (x y : List W) (o : ℕ) → o ≡ m.word_octets → length block ≡ 16 * o →
      take 16 (map number x) ≡ block_words m.word_octets block → length x ≡ length m.constants → map number y ≡ extended m (map number x) →
      w ≡ rounds m v m.constants (map number y) → r ≡ added m v w → r ≡ compressed_by m v block
  block_steps v w r block x y o width whole loaded long e f h =
      compress_steps m v w r (block_words m.word_octets block) (map number x) (map number y) loaded (rw length-map long) e f h
      ∙ sym (compressed_block m v block (whole ∙ ap (λ (k : ℕ). 16 * k) width))

-- no block
pub no_block : (m : Member) (v : State) (octets : List ℕ) (o : ℕ) → o ≡ m.word_octets → (length octets ≡ 16 * o → ⊥) → v ≡ compressed_by m v octets
no_block m v octets o width other = sym (compressed_none m v octets (rw (← width) other))

module _ (m : Member) (some_octets : 0 < m.word_octets) (v w : State) (s rest : List ℕ) (size : ℕ) (whole : size ≡ 16 * m.word_octets)
    (left : absorbed m v s ≡ absorbed m w rest) where
  pub block_turn :
      (w' : State) (block more : List ℕ) → rest ≡ block ++ more → length block ≡ size → w' ≡ compressed_by m w block → absorbed m v s ≡ absorbed m w' more
  block_turn w' block more parts long e =
      let after : w' ≡ compress m w (block_words m.word_octets block) = e ∙ compressed_block m w block (long ∙ whole) in
      left ∙ absorbed_one m some_octets w rest (rw (parts, length-append) (omega arith)) ∙ rw (parts, ← whole, ← long, take-append_seam, drop-append_seam, ← after)

  pub block_end : length rest < size → w ≡ absorbed m v s
  block_end short = sym (left ∙ absorbed_none m some_octets w rest (omega arith))
