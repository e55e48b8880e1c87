-- `leads` meets its contract. The loop's invariant: the answer is that from the record reached, with the aliases left.
use Rattle.edit_reach.proofs.ReachWays.{Leading}
use Rattle.edit_reach.proofs.leads.Given as goal

abbrev pub invariant-loop-r : goal.invariant-loop-r
invariant-loop-r l = Leading l.index.book.now l.index.table.now l.index.links.now l.onward l.owner (record { 0 = l.initial.r }) l.left l.r

abbrev pub decreases-loop-r : goal.decreases-loop-r
decreases-loop-r l = l.left
