-- The column that says for each alias where it leads (Sets.antt, `onward_at`), made once for a book.
use Rattle.spec_refusal.specs.declared.RecordNo.{RecordNo}
use Rattle.std.specs.Prelude.{ℕ, zero, suc, ◌%◌, cond, List, length, set, replicate, Option, Some, None}
use Rattle.book_places.specs.declared.Kind.TheVariants.{CaaOrAlias}
use Rattle.book_places.specs.Table.{tabled, room_for, table_of, data_at, is_alias_at}
use Rattle.book_places.specs.Chains.{no_record, chains_of}
use Rattle.book_places.specs.Sets.{first_owned}

abbrev pub number_found : Option RecordNo → ℕ
number_found None = no_record
number_found (Some r) = r.0

-- Record i, if it is an alias, gets the number of the first CAA record or alias of its target. The column holds numbers of 16 bits.
abbrev pub pointed : List ℕ → List ℕ → List ℕ → List ℕ → ℕ → List ℕ → List ℕ
pointed book table links heads i onward =
    cond (is_alias_at table i) (set onward i (number_found (first_owned CaaOrAlias book table links heads (data_at book table i)) % 65536)) onward

-- The first n records have got theirs.
abbrev pub pointed_below : List ℕ → List ℕ → List ℕ → List ℕ → ℕ → List ℕ → List ℕ
pointed_below book table links heads zero onward = onward
pointed_below book table links heads (suc i) onward = pointed book table links heads i (pointed_below book table links heads i onward)

-- The column of a book, with all records of its table.
unfoldable pub onward_of : List ℕ → List ℕ
onward_of book =
    pointed_below book (table_of book) (chains_of book).links (chains_of book).heads (length (tabled book)) (replicate (room_for book) no_record)
