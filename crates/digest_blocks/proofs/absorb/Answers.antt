-- `absorb` meets its contract. The loop's invariant: the blocks that are left give the same hash value.
use Rattle.std.proofs.Common.{rules}
use Rattle.digest_blocks.proofs.BlockSteps.{block_turn, block_end}
use Rattle.digest_blocks.proofs.absorb.Goals as goal

pub loop-block-preserved : goal.loop-block-preserved
loop-block-preserved g c = search (rules, block_turn)

pub returns : goal.returns
returns g c = search (rules, block_end)
