-- `put_row` meets its contract.
use native.Mathlib.Omega.{arith}
use lib.ListN.{length-set}
use borrow.Author.Rules.{rules}
use Rattle.book_fill.proofs.RowStores.{row_stored}
use Rattle.book_fill.proofs.put_row.Goals as goal

pub bounds-table-w-2 : goal.bounds-table-w-2
bounds-table-w-2 c = simp length-set (omega arith)

pub bounds-table-w-3 : goal.bounds-table-w-3
bounds-table-w-3 c = simp length-set (omega arith)

pub bounds-table-w-4 : goal.bounds-table-w-4
bounds-table-w-4 c = simp length-set (omega arith)

pub bounds-table-w-5 : goal.bounds-table-w-5
bounds-table-w-5 c = simp length-set (omega arith)

pub bounds-table-w-6 : goal.bounds-table-w-6
bounds-table-w-6 c = simp length-set (omega arith)

pub shape_of-table : goal.shape_of-table
shape_of-table c = simp length-set

pub returns : goal.returns
returns c = search (rules, row_stored)
