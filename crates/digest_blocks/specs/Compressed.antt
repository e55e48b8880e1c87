-- The hash value after the octets of a block.
use Rattle.std.specs.Prelude.{ℕ, ◌*◌, cond, List, eqb, length}
use Rattle.spec_digest.specs.Padding.{block_words}
use Rattle.spec_digest.specs.Family.{State, Member, compress}

-- The hash value after a block; octets that are no block leave it as it is.
unfoldable pub compressed_by : Member → State → List ℕ → State
compressed_by m v octets = cond (eqb (length octets) (16 * m.word_octets)) (compress m v (block_words m.word_octets octets)) v
