-- The whole blocks of a list, one after the other.
use Prim.Native.Nat.{ℕ, zero, suc, ◌+◌, ◌*◌, ◌/◌, ◌≤◌, ◌<◌}
use native.Mathlib.Nat.{zero-mul, div-eq-sub-div, div-eq_of_lt, div-add-mod', mod-lt}
use native.Mathlib.Numerals.{add-one}
use native.Mathlib.Omega.{arith}
use mathlib.Core.Path.{◌≡◌, refl, ap, ◌∙◌}
use mathlib.Core.List.{List, ◌++◌, map}
use lib.ListN.{length, take, drop, length-append, length-drop}
use lib.Seq.{take-append-le, drop-append-le, drop-drop}
use Rattle.spec_octets.specs.Reader.{value_from}
use Rattle.spec_digest.specs.Padding.{blocks, block_words, padding, padded}
use Rattle.spec_digest.specs.Family.{State, Member, compress, absorbed, hash_value}
use Rattle.spec_digest.proofs.CutLaws.{cut_front}

-- the words of a block that is the front of b
pub words_of_front : (n : ℕ) (b : List ℕ) → block_words n (take (16 * n) b) ≡ block_words n b
unfolding block_words
words_of_front n b = ap (map (value_from 0)) (cut_front n 16 b)

module _ (m : Member) (some_octets : 0 < m.word_octets) where
  abbrev size : ℕ
  size = 16 * m.word_octets

  positive : 0 < size
  positive = omega arith

  pub absorbed_none : (v : State) (s : List ℕ) → length s < 16 * m.word_octets → absorbed m v s ≡ v
  unfolding absorbed blocks
  absorbed_none v s h = rw (div-eq_of_lt h)

  pub absorbed_one :
      (v : State) (s : List ℕ) → 16 * m.word_octets ≤ length s →
      absorbed m v s ≡ absorbed m (compress m v (block_words m.word_octets (take (16 * m.word_octets) s))) (drop (16 * m.word_octets) s)
  unfolding absorbed blocks
  absorbed_one v s h =
      let next : length s / size ≡ suc (length (drop size s) / size)
      = rw (length-drop size s, div-eq-sub-div positive h, add-one) in
      rw next

  -- what follows s is absorbed with what s has left behind its last whole block
  absorbed_append :
      (q : ℕ) (v : State) (s p : List ℕ) → length s / size ≡ q → absorbed m v (s ++ p) ≡ absorbed m (absorbed m v s) (drop (q * size) s ++ p)
  absorbed_append zero v s p e =
      let short : length s < size = omega (arith, div-add-mod' (length s) size, mod-lt (length s) positive, ap (λ (k : ℕ). k * size) e, zero-mul size) in
      rw (zero-mul, absorbed_none v s short)
  absorbed_append (suc q) v s p e =
      rw (
        absorbed_one v (s ++ p) (omega (arith, length-append s p, whole)),
        take-append-le size s p whole,
        drop-append-le size s p whole,
        absorbed_append q w (drop size s) p less,
        absorbed_one v s whole,
        drop-drop (q * size) size s,
        rest,
      )
    where
      whole : size ≤ length s
      whole = omega (arith, div-add-mod' (length s) size, ap (λ (k : ℕ). k * size) e)

      w : State
      w = compress m v (block_words m.word_octets (take size s))

      less : length (drop size s) / size ≡ q
      less = rw length-drop (omega (arith, div-eq-sub-div positive whole))

      rest : size + q * size ≡ suc q * size
      rest = omega arith

  pub hash_by_parts :
      (s : List ℕ) →
      hash_value m s
      ≡ absorbed m (absorbed m m.initial s)
      (drop (length s / (16 * m.word_octets) * (16 * m.word_octets)) s ++ padding m.word_octets (length s))
  unfolding hash_value padded
  hash_by_parts s = absorbed_append (length s / size) m.initial s (padding m.word_octets (length s)) refl

  -- a loop over the blocks: what is left gives the same hash value
  module _ (v : State) (s : List ℕ) (w : State) (at : ℕ) (left : absorbed m v s ≡ absorbed m w (drop at s)) where
    pub blocks_turn :
        (w' : State) (next : ℕ) → at + 16 * m.word_octets ≤ length s → w' ≡ compress m w (block_words m.word_octets (drop at s)) →
        next ≡ at + 16 * m.word_octets → absorbed m v s ≡ absorbed m w' (drop next s)
    blocks_turn w' next h e n =
        left
        ∙ absorbed_one w (drop at s) (rw length-drop (omega arith))
        ∙ rw (words_of_front m.word_octets (drop at s), ← e, drop-drop, ← n)

    pub blocks_end : length s < at + 16 * m.word_octets → absorbed m v s ≡ w
    blocks_end h = left ∙ absorbed_none w (drop at s) (rw length-drop (omega arith))
