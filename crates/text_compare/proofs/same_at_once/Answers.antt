-- `same_at_once` meets its contract.
use Rattle.std.proofs.Common.{rules}
use Rattle.text_compare.proofs.PairWalk.{once_turn, once_end}
use Rattle.text_compare.proofs.same_at_once.Goals as goal

pub loop-p-preserved : goal.loop-p-preserved
loop-p-preserved c = search (rules, once_turn)

pub returns : goal.returns
returns c = search (rules, once_end)
