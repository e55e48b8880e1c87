-- `data_at` meets its contract.
use borrow.Author.Rules.{rules}
use Rattle.book_table.proofs.Cells.{data_by_cells}
use Rattle.book_table.proofs.data_at.Goals as goal

pub returns : goal.returns
returns c = search (rules, data_by_cells)
