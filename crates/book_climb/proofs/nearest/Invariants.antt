-- `nearest` meets its contract. The loop's invariant: from the offset reached and the labels taken off, the climb comes to its answer.
-- `parent_inside` is for an edit that looks at the parent: its part of the name is sound, and its answer is not.
use Prim.Native.Nat.{◌-◌}
use lib.ListN.{length}
use Rattle.book_climb.proofs.ClimbLaws.{Climbing}
use Rattle.book_climb.proofs.nearest.Given as goal

abbrev pub invariant-loop-above : goal.invariant-loop-above
invariant-loop-above l = Climbing l.index.book.now l.index.table.now l.index.links.now l.index.heads.now l.onward l.name l.c.at l.off

abbrev pub decreases-loop-above : goal.decreases-loop-above
decreases-loop-above l = length l.name - l.c.at
