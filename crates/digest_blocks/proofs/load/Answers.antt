-- `load` meets its contract. The loop's invariant: the words before t are loaded.
use Rattle.std.proofs.Common.{rules}
use Rattle.spec_digest.proofs.LoadLaws.{load_end}
use Rattle.digest_blocks.proofs.BlockSteps.{word_turn}
use Rattle.digest_blocks.proofs.load.Goals as goal

pub loop-t-preserved : goal.loop-t-preserved
loop-t-preserved g c = search (rules, word_turn)

pub returns : goal.returns
returns g c = search (rules, load_end)
