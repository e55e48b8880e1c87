-- `follow` meets its contract. The loop's invariant: the answer is that from the record reached, with the aliases left.
use Rattle.book_onward.proofs.OnwardWays.{Following}
use Rattle.book_onward.proofs.follow.Given as goal

abbrev pub invariant-loop-first : goal.invariant-loop-first
invariant-loop-first l = Following l.table l.links l.onward l.first l.left l.r

abbrev pub decreases-loop-first : goal.decreases-loop-first
decreases-loop-first l = l.left
