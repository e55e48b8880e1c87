-- Chains through the records of a book. A chain holds the records whose owners have the same key (Keys.antt), in the book's order: it is the
-- bucket of a hash table, as a linked list. It has nothing to do with a CNAME chain. `heads` has the number of the first record of each key,
-- `links` the number of the next record after each record. A number that is not an index of `links` ends a chain.
use Rattle.std.specs.Prelude.{ℕ, zero, suc, cond, List, [], ◌∷◌, leb, ltb, length, get_or, set, replicate}
use Rattle.spec_limits.specs.Limits.{max_records}
use Rattle.book_places.specs.Table.{tabled, room_for, table_of, owner_at}
use Rattle.book_places.specs.Keys.{key_of}

pub record Chains : Type 0 where
  pub links : List ℕ
  pub heads : List ℕ

-- Record i is put at the front of the chain of its owner's key.
abbrev pub linked : List ℕ → List ℕ → ℕ → Chains → Chains
linked book table i c =
    record { links = set c.links i (get_or c.heads (key_of (owner_at book table i)) 0); heads = set c.heads (key_of (owner_at book table i)) i }

-- n, or the limit if n is above it.
abbrev pub at_most : ℕ → ℕ → ℕ
at_most limit n = cond (leb n limit) n limit

-- The chains after the first n records are put in. The last record goes first, so that each chain is in the book's order.
abbrev pub linked_below : List ℕ → List ℕ → ℕ → Chains → Chains
linked_below book table zero c = c
linked_below book table (suc i) c = linked_below book table i (linked book table i c)

-- The number that ends a chain. No record has it.
unfoldable pub no_record : ℕ
no_record = 65535

-- Chains without a record: every head and every link ends its chain. There is room for so many records.
abbrev pub unlinked : ℕ → Chains
unlinked room = record { links = replicate room no_record; heads = replicate max_records no_record }

-- The chains of a book, with all records of its table.
unfoldable pub chains_of : List ℕ → Chains
chains_of book = linked_below book (table_of book) (length (tabled book)) (unlinked (room_for book))

-- The record after record i in its chain. The chain ends at a link that does not lead to a later record; the answer then is the number of links.
unfoldable pub behind : List ℕ → ℕ → ℕ
behind links i = cond (ltb i (get_or links i 0)) (get_or links i 0) (length links)

-- The records of a chain from record i on, at most `steps` of them.
abbrev pub along : ℕ → List ℕ → ℕ → List ℕ
along zero links i = []
along (suc steps) links i = cond (ltb i (length links)) (i ∷ along steps links (behind links i)) []

-- All records of a chain from record i on. No chain has more records than there are links.
unfoldable pub chain_from : List ℕ → ℕ → List ℕ
chain_from links i = along (length links) links i
