-- `name_touched` meets its contract. The loop's invariant: from the offset reached on, the walk comes to its answer.
use Prim.Native.Nat.{◌-◌}
use lib.ListN.{length}
use Rattle.edit_reach.proofs.ReachWays.{Asking}
use Rattle.edit_reach.proofs.name_touched.Given as goal

abbrev pub invariant-loop-above : goal.invariant-loop-above
invariant-loop-above l = Asking l.index.book.now l.index.table.now l.index.links.now l.index.heads.now l.onward l.owner l.name l.c.at

abbrev pub decreases-loop-above : goal.decreases-loop-above
decreases-loop-above l = length l.name - l.c.at
