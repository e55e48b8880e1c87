-- What `compressed_by` is, for callers.
use Rattle.std.proofs.Common.{◌≡◌, ℕ, ◌*◌, List, length}
use borrow.Author.Tests.{eq-eqb, ne_eqb}
use Rattle.spec_digest.specs.Padding.{block_words}
use Rattle.spec_digest.specs.Family.{State, Member, compress}
use Rattle.digest_blocks.specs.Compressed.{compressed_by}

module _ (m : Member) (v : State) (octets : List ℕ) where
  -- a block: the hash value after it
  pub compressed_block : length octets ≡ 16 * m.word_octets → compressed_by m v octets ≡ compress m v (block_words m.word_octets octets)
  unfolding compressed_by
  compressed_block whole = rw (eq-eqb (length octets) (16 * m.word_octets) whole)

  -- no block: the hash value as it was
  pub compressed_none : (length octets ≡ 16 * m.word_octets → ⊥) → compressed_by m v octets ≡ v
  unfolding compressed_by
  compressed_none other = rw (ne_eqb (length octets) (16 * m.word_octets) other)
