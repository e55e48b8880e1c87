-- `fill_table` meets its contract. The loop's invariant: the rows that are left, put behind those that are written, give the same table.
use borrow.Author.Rules.{rules}
use Rattle.spec_limits.specs.Limits.{max_book_octets, max_records}
use Rattle.book_fill.proofs.RowLaws.{row_fits}
use Rattle.book_fill.proofs.Filling.{long_count, long_rows, filling_begins, limit_reached, room_used, unreadable, rows_told, count_told, row_added}
use Rattle.book_fill.proofs.fill_table.Goals as goal

pub returns-then-book-gt-MAX_BOOK_OCTETS : goal.returns-then-book-gt-MAX_BOOK_OCTETS
unfolding max_book_octets
returns-then-book-gt-MAX_BOOK_OCTETS c = search (rules, long_count, long_rows)

pub loop-n-init : goal.loop-n-init
unfolding max_book_octets
loop-n-init c = search (rules, filling_begins)

pub returns-then-room-n : goal.returns-then-room-n
returns-then-room-n c = search (rules, rows_told, count_told, room_used)

pub returns-in_default : goal.returns-in_default
unfolding max_records
returns-in_default c = search (rules, rows_told, count_told, unreadable)

pub put_row-requires : goal.put_row-requires
unfolding max_book_octets
put_row-requires c = search (rules, row_fits)

pub overflow_add-n : goal.overflow_add-n
unfolding max_records
overflow_add-n c = search rules

pub loop-n-smaller : goal.loop-n-smaller
unfolding max_records
loop-n-smaller c = search rules

pub loop-n-preserved : goal.loop-n-preserved
unfolding max_records
loop-n-preserved c = search (rules, row_added)

pub returns : goal.returns
unfolding max_records
returns c = search (rules, rows_told, count_told, limit_reached)
