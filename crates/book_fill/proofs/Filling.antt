-- The loop of `fill_table`: what is left gives the same table and the same number of rows; a law for each way out.
use Rattle.std.specs.Prelude.{Option, Some, None}
use Prim.Native.Nat.{ℕ, zero, suc, ◌+◌, ◌-◌, ◌*◌, ◌/◌, ◌≤◌, ◌<◌}
use native.Mathlib.Nat.{sub-zero, zero-add, add-zero}
use native.Mathlib.Omega.{arith}
use mathlib.Core.Path.{◌≡◌, refl, sym, ap, ◌∙◌}
use mathlib.Core.List.{List, [], ◌∷◌, ◌++◌, append_assoc}
use lib.ListN.{length, take, drop, replicate, length-append, length-drop, length-replicate, take-append-drop}
use lib.Seq.{take_at, drop_at, drop-drop, take-nil, take_all, length-take-le}
use borrow.Author.Tests.{le-leb, lt-leb}
use Rattle.spec_limits.specs.Limits.{max_book_octets, max_records}
use Rattle.spec_record.specs.Records.{Record}
use Rattle.read_record.specs.Places.{fields_at}
use Rattle.read_record.specs.declared.RecordAt.{RecordAt}
use Rattle.read_record.proofs.RecordPlaces.{RecordTo, no_fields, fields_there}
use Rattle.book_places.specs.Readable.{readable}
use Rattle.book_places.specs.Table.{row, rows_from, tabled, room_for, table_of}
use Rattle.book_places.proofs.StandingRecords.{ends, room_enough}
use Rattle.book_fill.specs.Filled.{fillable, filled_rows, filled_table, row_at}
use Rattle.book_fill.specs.Theorems.{empty_table, BookTabled}
use Rattle.book_fill.proofs.RowLaws.{row_told}

-- a row put into a table behind n others
module _ (table row : List ℕ) (n : ℕ) (six : length row ≡ 6) (room : 6 * n + 6 ≤ length table) where
  abbrev stored : List ℕ
  stored = take (6 * n) table ++ (row ++ drop (6 * n + 6) table)

  front_long : length (take (6 * n) table ++ row) ≡ 6 * n + 6
  front_long = rw (length-append, length-take-le (6 * n) table (omega arith), six)

  stored_front : take (6 * n + 6) stored ≡ take (6 * n) table ++ row
  stored_front = rw (← append_assoc) (take_at (take (6 * n) table ++ row) (drop (6 * n + 6) table) (6 * n + 6) front_long)

  stored_behind : (j : ℕ) → drop (6 * n + 6 + j) stored ≡ drop (6 * n + 6 + j) table
  stored_behind j =
      sym (drop-drop j (6 * n + 6) stored)
      ∙ rw (← append_assoc, drop_at (take (6 * n) table ++ row) (drop (6 * n + 6) table) (6 * n + 6) front_long) (drop-drop j (6 * n + 6) table)

  stored_long : length stored ≡ length table
  stored_long = rw (length-append, length-append, length-take-le (6 * n) table (omega arith), six, length-drop) (omega arith)

  -- k rows to be put behind it can as well be put behind it afterwards
  stored_on :
      (rest : List ℕ) (k : ℕ) →
      take (6 * n) table ++ ((row ++ rest) ++ drop (6 * (n + suc k)) table) ≡ take (6 * suc n) stored ++ (rest ++ drop (6 * (suc n + k)) stored)
  stored_on rest k =
      let before : 6 * (n + suc k) ≡ 6 * n + 6 + 6 * k = omega arith in
      let next : 6 * suc n ≡ 6 * n + 6 = omega arith in
      let after : 6 * (suc n + k) ≡ 6 * n + 6 + 6 * k = omega arith in
      rw (before, next, after, stored_front, stored_behind (6 * k)) (simp append_assoc)

module _ (book t₀ : List ℕ) where
  -- the records that have no row yet: those from an offset on, when n rows are written
  abbrev pub left : ℕ → ℕ → List Record
  left at n = take (length t₀ / 6 - n) (readable (max_records - n) (drop at book))

  pub record Filling (table : List ℕ) (at n : ℕ) : Type 0 where
    pub rows : filled_table book t₀ ≡ take (6 * n) table ++ (rows_from at (left at n) ++ drop (6 * (n + length (left at n))) table)
    pub count : filled_rows book t₀ ≡ n + length (left at n)
    pub same : length table ≡ length t₀

  pub record Over (at n : ℕ) : Type 0 where
    pub nothing : left at n ≡ []

  module _ (long : max_book_octets < length book) where
    none_fillable : fillable book (length t₀) ≡ []
    unfolding fillable tabled
    none_fillable = rw (lt-leb (length book) max_book_octets long) (take-nil (length t₀ / 6))

    pub long_count : 0 ≡ filled_rows book t₀
    unfolding filled_rows
    long_count = rw none_fillable

    pub long_rows : t₀ ≡ filled_table book t₀
    unfolding filled_table
    long_rows = rw none_fillable

  all_left : length book ≤ max_book_octets → fillable book (length t₀) ≡ left 0 0
  unfolding fillable tabled
  all_left short = rw (le-leb (length book) max_book_octets short) (simp sub-zero)

  pub filling_begins : (at n : ℕ) → length book ≤ max_book_octets → at ≡ 0 → n ≡ 0 → Filling t₀ at n
  unfolding filled_table filled_rows
  filling_begins at n short ea en = rw (ea, en) (record { rows = rw (all_left short, zero-add); count = rw (all_left short, zero-add); same = refl })

  module _ (at n : ℕ) where
    pub limit_reached : max_records ≤ n → Over at n
    limit_reached h = let zero_left : max_records - n ≡ 0 = omega arith in record { nothing = rw zero_left (take-nil (length t₀ / 6 - n)) }

    pub room_used : length t₀ / 6 ≤ n → Over at n
    room_used h = let zero_left : length t₀ / 6 - n ≡ 0 = omega arith in record { nothing = rw zero_left }

    pub unreadable : (o : Option RecordAt) → n < max_records → o ≡ fields_at book at → o ≡ None → Over at n
    unreadable o h f g =
        let more : max_records - n ≡ suc (max_records - suc n) = omega arith in
        record { nothing = rw (more, no_fields book at o f g) (take-nil (length t₀ / 6 - n)) }

    module _ (table : List ℕ) (filling : Filling table at n) where
      module _ (over : Over at n) where
        pub rows_told : table ≡ filled_table book t₀
        rows_told = sym (filling.rows ∙ rw (over.nothing, add-zero) (take-append-drop (6 * n) table))

        pub count_told : n ≡ filled_rows book t₀
        count_told = sym (filling.count ∙ rw over.nothing (omega arith))

      module _ (o : Option RecordAt) (p : RecordAt) (few : n < max_records) (room : n < length t₀ / 6) (f : o ≡ fields_at book at) (g : o ≡ Some p) where
        step : (r : Record) → RecordTo book at p r → left at n ≡ r ∷ left p.next (suc n)
        step r t =
            let more : max_records - n ≡ suc (max_records - suc n) = omega arith in
            let space : length t₀ / 6 - n ≡ suc (length t₀ / 6 - suc n) = omega arith in
            rw (more, space, t.found)

        first_row : (r : Record) → RecordTo book at p r → (rs : List Record) → rows_from at (r ∷ rs) ≡ row_at at p ++ rows_from p.next rs
        first_row r t rs =
            ap (λ (x : ℕ). row at r ++ rows_from x rs) (ends book at p r t)
            ∙ ap (λ (x : List ℕ). x ++ rows_from p.next rs) (sym (row_told book at p r t))

        pub row_added :
            (table' : List ℕ) (m : ℕ) → table' ≡ take (6 * n) table ++ (row_at at p ++ drop (6 * n + 6) table) → m ≡ n + 1 →
            Filling table' p.next m
        row_added table' m e next = let (r, t) = fields_there book at o f p g in by r t
          where
            fits : 6 * n + 6 ≤ length table
            fits = omega (arith, filling.same)

            by : (r : Record) → RecordTo book at p r → Filling table' p.next m
            by r t =
                let one : m ≡ suc n = omega arith in
                let rest : List Record = left p.next (suc n) in
                rw (one, e) (record {
                  rows =
                      filling.rows
                      ∙ ap (λ (rs : List Record). take (6 * n) table ++ (rows_from at rs ++ drop (6 * (n + length rs)) table)) (step r t)
                      ∙ ap (λ (x : List ℕ). take (6 * n) table ++ (x ++ drop (6 * (n + suc (length rest))) table)) (first_row r t rest)
                      ∙ stored_on table (row_at at p) n refl fits (rows_from p.next rest) (length rest);
                  count = filling.count ∙ rw (step r t) (omega arith);
                  same = stored_long table (row_at at p) n refl fits ∙ filling.same;
                })

drop_replicate : (k n a : ℕ) → drop k (replicate n a) ≡ replicate (n - k) a
drop_replicate zero n a = rw sub-zero
drop_replicate (suc k) zero a = let none : 0 - suc k ≡ 0 = omega arith in rw none
drop_replicate (suc k) (suc n) a = let one : suc n - suc k ≡ n - k = omega arith in rw one (drop_replicate k n a)

all_fillable : (book : List ℕ) → fillable book (length (empty_table (room_for book))) ≡ tabled book
unfolding fillable
all_fillable book =
    let room : length (empty_table (room_for book)) / 6 ≡ room_for book = omega (arith, length-replicate {A = ℕ} (6 * room_for book) 0) in
    rw room (take_all (room_for book) (tabled book) (room_enough book).0)

pub book_tabled : BookTabled
unfolding filled_table filled_rows table_of
book_tabled book =
    let left : 6 * room_for book - 6 * length (tabled book) ≡ 6 * (room_for book - length (tabled book)) = omega arith in
    rw (all_fillable book) (rw (drop_replicate, left), refl)
