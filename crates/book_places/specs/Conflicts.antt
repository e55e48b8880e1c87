-- Conflicts between aliases and CAA records, found by the table and the chains of a book: refusal 12.
use Rattle.spec_refusal.specs.declared.RecordNo.{RecordNo}
use Rattle.std.specs.Prelude.{ℕ, zero, suc, ◌≡◌, Bool, false, cond, ◌&&◌, ◌||◌, List, [], ltb, length, Option, None, Some}
use Rattle.spec_record.specs.Records.{records, layout_refusal, clash_from}
use Rattle.book_places.specs.declared.Kind.TheVariants.{CaaOrAlias}
use Rattle.book_places.specs.Table.{table_of, owner_at, is_alias_at}
use Rattle.book_places.specs.Chains.{chains_of}
use Rattle.book_places.specs.Sets.{is_of_kind, first_owned}

-- Record i, where the first CAA record or alias of its owner is known: that one comes before it, and one of the two is an alias.
abbrev pub clashes_with : List ℕ → ℕ → Option RecordNo → Bool
clashes_with table i None = false
clashes_with table i (Some r) = ltb r.0 i && (is_alias_at table i || is_alias_at table r.0)

unfoldable pub clashes_at : List ℕ → List ℕ → List ℕ → List ℕ → ℕ → Bool
clashes_at book table links heads i =
    is_of_kind CaaOrAlias table i && clashes_with table i (first_owned CaaOrAlias book table links heads (owner_at book table i))

-- The first of n records from record k on that is in conflict. The records before it are known not to be in conflict.
abbrev pub conflict_from : List ℕ → List ℕ → List ℕ → List ℕ → ℕ → ℕ → Option ℕ
conflict_from book table links heads k zero = None
conflict_from book table links heads k (suc n) = cond (clashes_at book table links heads k) (Some k) (conflict_from book table links heads (suc k) n)

-- The first record of a book that is in conflict.
unfoldable pub first_conflict : List ℕ → Option ℕ
first_conflict book = conflict_from book (table_of book) (chains_of book).links (chains_of book).heads 0 (length (chains_of book).links)

-- If a book is not refused by rows 5 to 7, its first conflict by table and chains is the first conflict of its records. It is enough to compare each
-- record with the first one of its owner.
abbrev pub ConflictByTable : Type 0
ConflictByTable = (book : List ℕ) → layout_refusal book ≡ None → first_conflict book ≡ clash_from 0 [] (records book)
