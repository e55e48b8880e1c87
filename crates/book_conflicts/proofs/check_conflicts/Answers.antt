-- `check_conflicts` meets its contract. The loop's invariant: the first i records are not in conflict.
use borrow.Author.Rules.{rules}
use Rattle.book_conflicts.proofs.Ways.{check_start, all_checked, conflict_there, check_on}
use Rattle.book_conflicts.proofs.check_conflicts.Goals as goal

pub loop-i-init : goal.loop-i-init
loop-i-init c = search (rules, check_start)

pub returns-then-clashes_at : goal.returns-then-clashes_at
returns-then-clashes_at c = search (rules, conflict_there)

pub loop-i-preserved : goal.loop-i-preserved
loop-i-preserved c = search (rules, check_on)

pub returns : goal.returns
returns c = search (rules, all_checked)
