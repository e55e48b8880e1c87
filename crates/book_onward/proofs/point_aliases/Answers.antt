-- `point_aliases` meets its contract. The loop's invariant: the records so far are written down.
use borrow.Author.Rules.{rules}
use Rattle.book_onward.proofs.OnwardWays.{pointed_on, same_long, all_pointed}
use Rattle.book_onward.proofs.point_aliases.Goals as goal

pub loop-i-preserved : goal.loop-i-preserved
loop-i-preserved c = search (rules, pointed_on)

pub shape_of-onward : goal.shape_of-onward
shape_of-onward c = search (rules, same_long)

pub returns : goal.returns
returns c = search (rules, all_pointed)
