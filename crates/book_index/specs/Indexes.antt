-- The chains and the column of aliases that `index_book` makes: it fills the table from the book, links the records that got a row, and writes down
-- where each alias leads. And the arrays that it needs.
use Rattle.std.specs.Prelude.{ℕ, ◌≡◌, List, replicate}
use Rattle.spec_limits.specs.Limits.{max_records}
use Rattle.book_places.specs.Table.{room_for}
use Rattle.book_places.specs.Chains.{Chains, at_most, linked_below, no_record, unlinked}
use Rattle.book_places.specs.Onward.{pointed_below}
use Rattle.book_fill.specs.Filled.{filled_rows, filled_table}
use Rattle.book_fill.specs.Theorems.{empty_table}

unfoldable pub indexed_chains : List ℕ → List ℕ → Chains → Chains
indexed_chains book table c = linked_below book (filled_table book table) (at_most max_records (filled_rows book table)) c

unfoldable pub indexed_onward : List ℕ → List ℕ → Chains → List ℕ → List ℕ
indexed_onward book table c onward =
    let made = indexed_chains book table c in
    pointed_below book (filled_table book table) made.links made.heads (filled_rows book table) onward

-- Empty arrays with room for the records of the book.
pub record Blank (book table links heads onward : List ℕ) : Type 0 where
  pub rows : table ≡ empty_table (room_for book)
  pub chained : links ≡ (unlinked (room_for book)).links
  pub headed : heads ≡ (unlinked (room_for book)).heads
  pub pointing : onward ≡ replicate (room_for book) no_record
