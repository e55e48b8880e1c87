-- `cell` meets its contract.
use Prim.Native.Nat.{◌+◌, ◌*◌}
use native.Mathlib.Omega.{arith}
use borrow.Author.Rules.{rules}
use Rattle.spec_limits.specs.Limits.{max_records}
use Rattle.book_table.proofs.Cells.{no_record_lem, no_cell, cell_there}
use Rattle.book_table.proofs.cell.Goals as goal

pub returns-then-i-ge-MAX_RECORDS : goal.returns-then-i-ge-MAX_RECORDS
unfolding max_records
returns-then-i-ge-MAX_RECORDS c = search (rules, no_record_lem)

pub returns-then-table-at : goal.returns-then-table-at
unfolding max_records
returns-then-table-at c = search (rules, no_cell)

pub overflow_cast-result : goal.overflow_cast-result
overflow_cast-result c = omega (arith, c.shared_slice_known-1.given (6 * c.args.i + c.args.column))

pub returns : goal.returns
unfolding max_records
returns c = search (rules, cell_there)
