-- `clashes_at` meets its contract.
use borrow.Author.Rules.{rules}
use Rattle.book_conflicts.proofs.Ways.{not_counting, nothing_owned, none_before, one_before}
use Rattle.book_conflicts.proofs.clashes_at.Goals as goal

pub returns-then-not-is_of_kind : goal.returns-then-not-is_of_kind
returns-then-not-is_of_kind c = search (rules, not_counting)

pub returns-then-r-i : goal.returns-then-r-i
returns-then-r-i c = search (rules, one_before)

pub returns-else-r-i : goal.returns-else-r-i
returns-else-r-i c = search (rules, none_before)

pub returns-in-None : goal.returns-in-None
returns-in-None c = search (rules, nothing_owned)
