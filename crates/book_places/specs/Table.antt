-- The table of a book: one row of six numbers for each record, in the book's order. Reading past the end of a table gives 0.
use Rattle.std.specs.Prelude.{ℕ, ◌+◌, ◌-◌, ◌*◌, Bool, cond, List, [], ◌∷◌, ◌++◌, leb, ltb, length, take, drop, get_or, replicate}
use Rattle.spec_limits.specs.Limits.{max_book_octets, max_records}
use Rattle.spec_name.specs.Names.{wire}
use Rattle.spec_record.specs.Records.{Record, wire_record, is_caa, is_alias}
use Rattle.book_places.specs.Readable.{readable}

-- The row of the record r that begins at offset `at`: owner offset, type, data offset, owner length, data length, class. The owner is in wire
-- form, and its length counts the zero octet at its end.
abbrev pub row : ℕ → Record → List ℕ
row at r =
    at ∷ r.type ∷ (at + length (wire_record r) - length r.rdata) ∷ length (wire r.owner) ∷ length r.rdata ∷ r.class ∷ []

-- The rows of records that follow each other without a gap, from offset `at` on.
abbrev pub rows_from : ℕ → List Record → List ℕ
rows_from at [] = []
rows_from at (r ∷ rs) = row at r ++ rows_from (at + length (wire_record r)) rs

-- The records that get a row: all whose fields can be read. A book over the limit gets no rows.
unfoldable pub tabled : List ℕ → List Record
tabled book = cond (leb (length book) max_book_octets) (readable max_records book) []

-- A record takes at least 11 octets: an owner of one octet, and ten octets of fixed fields. So a short book has few records.
unfoldable pub few_records : ℕ
few_records = 64

unfoldable pub short_book : ℕ
short_book = 11 * few_records

-- How many records a call makes room for: few for a short book, otherwise `max_records`.
unfoldable pub room_for : List ℕ → ℕ
room_for book = cond (leb (length book) short_book) few_records max_records

-- The table: the rows of a book, then zeros, up to that room.
unfoldable pub table_of : List ℕ → List ℕ
table_of book = rows_from 0 (tabled book) ++ replicate (6 * (room_for book - length (tabled book))) 0

-- The number in one column of the row of record i; 0 if i is not below `max_records`.
unfoldable pub cell : List ℕ → ℕ → ℕ → ℕ
cell table i column = cond (ltb i max_records) (get_or table (6 * i + column) 0) 0

-- n octets from offset `at` on, or fewer if the text ends before.
abbrev pub octets_at : List ℕ → ℕ → ℕ → List ℕ
octets_at s at n = take n (drop at s)

-- What a row says about record i: its owner in wire form, its data, whether it is a CAA record, and whether it is an alias.
unfoldable pub owner_at : List ℕ → List ℕ → ℕ → List ℕ
owner_at book table i = octets_at book (cell table i 0) (cell table i 3)

unfoldable pub data_at : List ℕ → List ℕ → ℕ → List ℕ
data_at book table i = octets_at book (cell table i 2) (cell table i 4)

unfoldable pub is_caa_at : List ℕ → ℕ → Bool
is_caa_at table i = is_caa (cell table i 1) (cell table i 5)

unfoldable pub is_alias_at : List ℕ → ℕ → Bool
is_alias_at table i = is_alias (cell table i 1) (cell table i 5)
