-- What `fill_table` writes into a table of any length. The table that the calls use is long enough for every book.
use Rattle.std.specs.Prelude.{ℕ, ◌-◌, ◌*◌, ◌/◌, ◌≤◌, ◌<◌, List, [], ◌∷◌, ◌++◌, length, take, drop}
use Rattle.spec_record.specs.Records.{Record}
use Rattle.read_record.specs.declared.RecordAt.{RecordAt}
use Rattle.book_places.specs.Table.{rows_from, tabled}

-- The records of a book that get a row in a table of `room` numbers.
unfoldable pub fillable : List ℕ → ℕ → List Record
fillable book room = take (room / 6) (tabled book)

-- How many rows are written; and the table afterwards: the rows at its front, and the rest unchanged.
unfoldable pub filled_rows : List ℕ → List ℕ → ℕ
filled_rows book table = length (fillable book (length table))

unfoldable pub filled_table : List ℕ → List ℕ → List ℕ
filled_table book table = rows_from 0 (fillable book (length table)) ++ drop (6 * length (fillable book (length table))) table

-- The row of the record that begins at offset `at`, from the offsets that the reader found.
abbrev pub row_at : ℕ → RecordAt → List ℕ
row_at at p = at ∷ p.rtype ∷ p.rdata ∷ (p.owner_end - at) ∷ (p.next - p.rdata) ∷ p.class ∷ []

-- These offsets are in order, and each number of the row fits 16 bits.
pub record RowFits (at : ℕ) (p : RecordAt) : Type 0 where
  pub owner : at < p.owner_end
  pub fixed : p.owner_end ≤ p.rdata
  pub order : p.rdata ≤ p.next
  pub inside : p.next < 65536
  pub type : p.rtype < 65536
  pub class : p.class < 65536
