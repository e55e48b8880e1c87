-- What `fill_table` computes for a book. The statement is proved under its name in proofs/.
use Rattle.std.specs.Prelude.{ℕ, ◌*◌, ◌≡◌, List, length, replicate}
use Rattle.book_places.specs.Table.{tabled, room_for, table_of}
use Rattle.book_fill.specs.Filled.{filled_rows, filled_table}

-- A table of zeros with room for so many rows.
abbrev pub empty_table : ℕ → List ℕ
empty_table room = replicate (6 * room) 0

-- With room for the records of a book, and filled from it, it becomes the table of the book. The answer is the number of rows.
abbrev pub BookTabled : Type 0
BookTabled =
    (book : List ℕ) →
    (filled_table book (empty_table (room_for book)) ≡ table_of book) × (filled_rows book (empty_table (room_for book)) ≡ length (tabled book))
