-- What `index_book` computes for a book. The statement is proved under its name in proofs/.
use Rattle.std.specs.Prelude.{ℕ, ◌≡◌, List, replicate}
use Rattle.book_places.specs.Table.{room_for, table_of}
use Rattle.book_places.specs.Chains.{no_record, unlinked, chains_of}
use Rattle.book_places.specs.Onward.{onward_of}
use Rattle.book_fill.specs.Filled.{filled_table}
use Rattle.book_fill.specs.Theorems.{empty_table}
use Rattle.book_index.specs.Indexes.{indexed_chains, indexed_onward}

-- From a table of zeros and chains without a record, with room for the records of the book, it makes the table of the book, its chains and its
-- column of aliases.
abbrev pub BookIndexed : Type 0
BookIndexed =
    (book : List ℕ) →
    (filled_table book (empty_table (room_for book)) ≡ table_of book) × (indexed_chains book (empty_table (room_for book)) (unlinked (room_for book)) ≡ chains_of book)
    × (indexed_onward book (empty_table (room_for book)) (unlinked (room_for book)) (replicate (room_for book) no_record) ≡ onward_of book)
