-- `is_alias_at` meets its contract.
use borrow.Author.Rules.{rules}
use Rattle.book_table.proofs.Cells.{alias_by_cells}
use Rattle.book_table.proofs.is_alias_at.Goals as goal

pub returns : goal.returns
returns c = search (rules, alias_by_cells)
