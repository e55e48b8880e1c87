-- The table and the chains that are made of a book: that they are the book's, and for callers the same by the sizes of their arrays.
use Prim.Native.Nat.{ℕ, ◌*◌, ◌≤◌, ◌<◌}
use mathlib.Core.Path.{◌≡◌, refl, ap, ◌∙◌}
use mathlib.Core.List.{List}
use lib.ListN.{length, replicate}
use Rattle.spec_limits.specs.Limits.{max_records}
use Rattle.book_places.specs.Table.{few_records, short_book, tabled, room_for, table_of}
use Rattle.book_places.specs.Chains.{Chains, no_record, chains_of, at_most, linked_below}
use Rattle.book_places.specs.Onward.{pointed_below, onward_of}
use Rattle.book_places.proofs.StandingRecords.{room_short, room_long}
use Rattle.book_chains.proofs.Linking.{book_linked}
use Rattle.book_fill.specs.Filled.{filled_rows, filled_table}
use Rattle.book_fill.proofs.Filling.{book_tabled}
use Rattle.book_index.specs.Indexes.{indexed_chains, indexed_onward, Blank}
use Rattle.book_index.specs.Theorems.{BookIndexed}

pub book_indexed : BookIndexed
unfolding indexed_chains indexed_onward onward_of
book_indexed book = (
  (book_tabled book).0,
  rw ((book_tabled book).0, (book_tabled book).1) (book_linked book),
  rw ((book_tabled book).0, (book_tabled book).1)
      (ap (λ c. pointed_below book (table_of book) c.links c.heads (length (tabled book)) (replicate (room_for book) no_record)) (book_linked book)),
)

-- as index_book asks for them: table is the one filled, n the number of its rows
module _ (book before table : List ℕ) (n : ℕ) (c : Chains) (rows : table ≡ filled_table book before) (count : n ≡ filled_rows book before) (x : List ℕ) where
  pub links_made : x ≡ (linked_below book table (at_most max_records n) c).links → x ≡ (indexed_chains book before c).links
  unfolding indexed_chains
  links_made e = e ∙ rw (rows, count)

  pub heads_made : x ≡ (linked_below book table (at_most max_records n) c).heads → x ≡ (indexed_chains book before c).heads
  unfolding indexed_chains
  heads_made e = e ∙ rw (rows, count)

  pub onward_made :
      (links heads onward : List ℕ) → links ≡ (indexed_chains book before c).links → heads ≡ (indexed_chains book before c).heads →
      x ≡ pointed_below book table links heads n onward → x ≡ indexed_onward book before c onward
  unfolding indexed_onward
  onward_made links heads onward e f g = g ∙ rw (rows, count, e, f)

-- for callers: what is made in arrays with nothing in them
module _ (book table links heads onward : List ℕ) (blank : Blank book table links heads onward) (x : List ℕ) where
  pub table_of_book : x ≡ filled_table book table → x ≡ table_of book
  table_of_book e = e ∙ rw blank.rows (book_indexed book).0

  made : indexed_chains book table (record { links = links; heads = heads }) ≡ chains_of book
  made = rw (blank.rows, blank.chained, blank.headed) (book_indexed book).1

  pub links_of_book : x ≡ (indexed_chains book table (record { links = links; heads = heads })).links → x ≡ (chains_of book).links
  links_of_book e = e ∙ ap (λ c. c.links) made

  pub heads_of_book : x ≡ (indexed_chains book table (record { links = links; heads = heads })).heads → x ≡ (chains_of book).heads
  heads_of_book e = e ∙ ap (λ c. c.heads) made

  pub onward_of_book : x ≡ indexed_onward book table (record { links = links; heads = heads }) onward → x ≡ onward_of book
  onward_of_book e = e ∙ rw (blank.rows, blank.chained, blank.headed, blank.pointing) (book_indexed book).2

-- for callers: the arrays of a short book and those of any other, by their sizes
module _ (book : List ℕ) (m k : ℕ) (heads : List ℕ) (e : heads ≡ replicate max_records no_record) where
  pub blank_short : length book ≤ short_book → m ≡ 6 * few_records → k ≡ few_records → Blank book (replicate m 0) (replicate k no_record) heads (replicate k no_record)
  blank_short h zeros ends = rw (e, zeros, ends) (record { rows = rw (room_short book h); chained = rw (room_short book h); headed = refl; pointing = rw (room_short book h) })

  pub blank_long : short_book < length book → m ≡ 6 * max_records → k ≡ max_records → Blank book (replicate m 0) (replicate k no_record) heads (replicate k no_record)
  blank_long h zeros ends = rw (e, zeros, ends) (record { rows = rw (room_long book h); chained = rw (room_long book h); headed = refl; pointing = rw (room_long book h) })
