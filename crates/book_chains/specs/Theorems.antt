-- What `link` computes for a book. The statement is proved under its name in proofs/.
use Rattle.std.specs.Prelude.{ℕ, ◌≡◌, List, length}
use Rattle.spec_limits.specs.Limits.{max_records}
use Rattle.book_places.specs.Table.{tabled, room_for, table_of}
use Rattle.book_places.specs.Chains.{at_most, linked_below, unlinked, chains_of}

-- Given the book's table and its number of rows, `link` makes the chains of the book. Before the call no chain may have a record, and there
-- must be room for the records of the book.
abbrev pub BookLinked : Type 0
BookLinked =
    (book : List ℕ) → linked_below book (table_of book) (at_most max_records (length (tabled book))) (unlinked (room_for book)) ≡ chains_of book
