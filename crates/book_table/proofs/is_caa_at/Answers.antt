-- `is_caa_at` meets its contract.
use borrow.Author.Rules.{rules}
use Rattle.book_table.proofs.Cells.{caa_by_cells}
use Rattle.book_table.proofs.is_caa_at.Goals as goal

pub returns : goal.returns
returns c = search (rules, caa_by_cells)
