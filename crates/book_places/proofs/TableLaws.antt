-- Each row of the table of a book tells of the record of its number.
use Rattle.std.proofs.lemmas.Option.{none-some, same_Some}
use Rattle.std.specs.Prelude.{Some, slice_get}
use Prim.Native.Nat.{ℕ, zero, suc, ◌+◌, ◌-◌, ◌*◌, ◌≤◌}
use native.Mathlib.Omega.{arith}
use mathlib.Core.Path.{◌≡◌, refl, sym, ◌∙◌}
use mathlib.Core.List.{List, [], ◌∷◌, ◌++◌, append_assoc}
use lib.ListN.{length, get_or, replicate, length-append, length-replicate}
use lib.Seq.{get_or-append-add}
use borrow.Author.Tests.{lt-ltb}
use Rattle.spec_limits.specs.Limits.{max_records}
use Rattle.spec_octets.specs.Lists.{All, all_nil, all_cons}
use Rattle.spec_name.specs.Names.{GoodName}
use Rattle.spec_record.specs.Records.{Record, wire_record}
use Rattle.book_places.specs.Table.{row, rows_from, tabled, room_for, table_of, cell, owner_at, data_at, is_caa_at, is_alias_at}
use Rattle.book_places.specs.Theorems.{RowTells, TableTells, TableFits}
use Rattle.book_places.proofs.StandingRecords.{Standing, StandFrom, tabled_stand, few_tabled, room_enough}

module _ (book table : List ℕ) where
  -- the rows from k on tell of the records rs
  abbrev pub TellsFrom : ℕ → List Record → Type 0
  TellsFrom k [] = Unit
  TellsFrom k (r ∷ rs) = RowTells book table k r × TellsFrom (suc k) rs

  module _ (front back : List ℕ) (at k : ℕ) (r : Record) (rs : List Record) (e : table ≡ front ++ (rows_from at (r ∷ rs) ++ back)) (l : length front ≡ 6 * k)
      (h : suc k ≤ max_records) where
    cells : (column : ℕ) → cell table k column ≡ get_or (rows_from at (r ∷ rs) ++ back) column 0
    unfolding cell
    cells column = rw (lt-ltb k max_records h, e, ← l) (get_or-append-add front (rows_from at (r ∷ rs) ++ back) column 0)

    row_tells : Standing book at r → RowTells book table k r
    unfolding owner_at data_at is_caa_at is_alias_at
    row_tells s = record {
      owner = rw (cells 0, cells 3) s.owner;
      rdata = rw (cells 2, cells 4) s.rdata;
      caa = rw (cells 1, cells 5);
      alias = rw (cells 1, cells 5);
    }

  tells_from :
      (rs : List Record) (front back : List ℕ) (at k : ℕ) → table ≡ front ++ (rows_from at rs ++ back) → length front ≡ 6 * k →
      k + length rs ≤ max_records → StandFrom book at rs → TellsFrom k rs
  tells_from [] front back at k e l h s = tt
  tells_from (r ∷ rs) front back at k e l h s = (
    row_tells front back at k r rs e l (omega arith) s.0,
    tells_from
        rs
        (front ++ row at r)
        back
        (at + length (wire_record r))
        (suc k)
        (e ∙ sym (append_assoc front (row at r) (rows_from (at + length (wire_record r)) rs ++ back)))
        (omega (arith, length-append front (row at r)))
        (omega arith)
        s.1,
  )

  row_of : (rs : List Record) (k i : ℕ) (r : Record) → TellsFrom k rs → slice_get rs i ≡ Some r → RowTells book table (k + i) r
  row_of [] k i r t e = absurd (none-some _ e)
  row_of (x ∷ rs) k zero r t e = let same = same_Some _ _ e in let there : k + 0 ≡ k = omega arith in rw (there, ← same) t.0
  row_of (x ∷ rs) k (suc i) r t e = let there : k + suc i ≡ suc k + i = omega arith in rw there (row_of rs (suc k) i r t.1 e)

pub rows_tell : (book : List ℕ) → TellsFrom book (table_of book) 0 (tabled book)
unfolding table_of
rows_tell book =
    tells_from
    book
    (table_of book)
    (tabled book)
    []
    (replicate (6 * (room_for book - length (tabled book))) 0)
    0
    0
    refl
    (omega arith)
    (omega (arith, few_tabled book))
    (tabled_stand book)

pub table_tells : TableTells
table_tells book i r e = let there : 0 + i ≡ i = omega arith in rw there at (row_of book (table_of book) (tabled book) 0 i r (rows_tell book) e)

pub rows_long : (at : ℕ) (rs : List Record) → length (rows_from at rs) ≡ 6 * length rs
rows_long at [] = omega arith
rows_long at (r ∷ rs) = omega (arith, rows_long (at + length (wire_record r)) rs)

pub table_fits : TableFits
unfolding table_of
table_fits book = (
  rw (length-append, rows_long 0 (tabled book), length-replicate) (omega (arith, (room_enough book).0)),
  few_tabled book,
)

pub good_owners : (book : List ℕ) → All (λ r. GoodName r.owner) (tabled book)
good_owners book = go 0 (tabled book) (tabled_stand book)
  where
    go : (at : ℕ) (rs : List Record) → StandFrom book at rs → All (λ r. GoodName r.owner) rs
    go at [] s = all_nil
    go at (r ∷ rs) s = all_cons s.0.good (go (at + length (wire_record r)) rs s.1)
