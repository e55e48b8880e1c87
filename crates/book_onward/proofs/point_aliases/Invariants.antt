-- `point_aliases` meets its contract. The loop's invariant: the records so far are written down.
use Rattle.book_onward.proofs.OnwardWays.{Pointed}
use Rattle.book_onward.proofs.point_aliases.Given as goal

abbrev pub invariant-loop-i : goal.invariant-loop-i
invariant-loop-i l = Pointed l.index.book.now l.index.table.now l.index.links.now l.index.heads.now l.initial.onward l.i l.onward
