-- `octets_at` meets its contract.
use borrow.Author.Rules.{rules}
use Rattle.book_table.proofs.Cells.{behind_all, to_the_end, whole_part}
use Rattle.book_table.proofs.octets_at.Goals as goal

pub returns-then-end-at : goal.returns-then-end-at
returns-then-end-at c = search (rules, behind_all)

pub returns-then-end-at-2 : goal.returns-then-end-at-2
returns-then-end-at-2 c = search (rules, to_the_end)

pub returns : goal.returns
returns c = search (rules, whole_part)
