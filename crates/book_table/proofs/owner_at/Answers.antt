-- `owner_at` meets its contract.
use borrow.Author.Rules.{rules}
use Rattle.book_table.proofs.Cells.{owner_by_cells}
use Rattle.book_table.proofs.owner_at.Goals as goal

pub returns : goal.returns
returns c = search (rules, owner_by_cells)
