-- `check_conflicts` meets its contract. The loop's invariant: the first i records are not in conflict.
use Rattle.book_conflicts.proofs.Ways.{Checked}
use Rattle.book_conflicts.proofs.check_conflicts.Given as goal

abbrev pub invariant-loop-i : goal.invariant-loop-i
invariant-loop-i l = Checked l.index.book.now l.index.table.now l.index.links.now l.index.heads.now l.i
