-- `compress_block` meets its contract: the array has a place for each constant.
use Rattle.std.proofs.Common.{lit≤}
use Rattle.spec_digest.proofs.LoadLaws.{rounds_256}
use Rattle.digest_blocks.proofs.U32BlockWord.compress_block.Goals as goal

pub compress_in-requires-after_bounds : goal.compress_in-requires-after_bounds
compress_in-requires-after_bounds c κs = (rounds_256, lit≤ tt)
