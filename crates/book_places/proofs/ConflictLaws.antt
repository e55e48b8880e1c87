-- The first conflict by table and chains is the first conflict of the records.
use Rattle.std.proofs.lemmas.Option.{none-some}
use Rattle.std.specs.Prelude.{Option, None, Some}
use Prim.Native.Nat.{ℕ, zero, suc, ◌+◌, ◌-◌, ◌*◌, ◌≤◌}
use native.Mathlib.Nat.{zero-add}
use native.Mathlib.Omega.{arith}
use mathlib.Core.Path.{◌≡◌, refl, sym, ap, ap₂, ◌∙◌}
use mathlib.Core.Logic.{◌⊎◌, inl, inr}
use mathlib.Core.Bool.{Bool, true, false, cond, ◌&&◌, ◌||◌}
use mathlib.Core.List.{List, [], ◌∷◌, ◌++◌}
use lib.Dec.{ltb}
use lib.ListN.{length, get_or, replicate}
use lib.Seq.{get_or-append-add}
use borrow.Author.Tests.{lt-ltb, le-ltb, ltb-false, le-leb}
use Rattle.spec_limits.specs.Limits.{max_book_octets, max_records}
use Rattle.spec_refusal.specs.declared.Refusal.{Refusal}
use Rattle.spec_refusal.specs.declared.Refusal.TheVariants.{BookTooLong}
use Rattle.spec_octets.specs.Lists.{cons_if, select, begins, All}
use Rattle.spec_octets.proofs.ListLaws.{true_or_false, alike, All-head, All-tail}
use Rattle.spec_name.specs.Names.{Name, wire, same_name, GoodName}
use Rattle.spec_name.proofs.WholeNames.{whole_names}
use Rattle.spec_record.specs.Records.{Record, is_caa, is_alias, record_items, record_refusal, records, layout_refusal, counts, clashes}
use Rattle.spec_record.proofs.FirstOfOwner.{ClashFree, is_rival, with_alias, clashes_by_first}
use Rattle.spec_record.proofs.FirstClash.{first_clash}
use Rattle.book_places.specs.declared.Kind.TheVariants.{CaaOrAlias}
use Rattle.book_places.specs.Table.{rows_from, tabled, room_for, table_of, cell, owner_at, is_caa_at, is_alias_at}
use Rattle.book_places.specs.Chains.{chains_of}
use Rattle.book_places.specs.Sets.{is_of_kind, is_owned_of, first_of, first_owned}
use Rattle.book_places.specs.Conflicts.{clashes_with, clashes_at, conflict_from, first_conflict, ConflictByTable}
use Rattle.book_places.specs.Theorems.{RowTells, numbers_from}
use Rattle.book_places.proofs.AcceptedBook.{unrefused}
use Rattle.book_places.proofs.TableLaws.{TellsFrom, rows_tell, rows_long, good_owners}
use Rattle.book_places.proofs.ChainedRecords.{chains_fit, chains_skip_nothing}
use Rattle.book_places.proofs.StandingRecords.{room_enough}

-- the records of a book that is well laid out have rows, all of them
pub laid_out_tabled : (book : List ℕ) → layout_refusal book ≡ None → tabled book ≡ records book
unfolding tabled layout_refusal records record_items
laid_out_tabled book h =
    let (short, whole) = parts (ltb max_book_octets (length book)) (record_refusal (record_items book)) h in
    rw (le-leb (length book) max_book_octets (ltb-false max_book_octets (length book) short)) (unrefused max_records book whole)
  where
    parts : (t : Bool) (o : Option Refusal) → cond t (Some BookTooLong) o ≡ None → (t ≡ false) × (o ≡ None)
    parts true o e = absurd (none-some _ (sym e))
    parts false o e = (refl, e)

same_turned : (m n : Name) → same_name m n ≡ same_name n m
same_turned m n = alike (same_name m n) (same_name n m) (
  λ e. (whole_names.0 n m).1 (sym ((whole_names.0 m n).0 e)),
  λ e. (whole_names.0 m n).1 (sym ((whole_names.0 n m).0 e)),
)

same_self : (n : Name) → same_name n n ≡ true
same_self n = (whole_names.0 n n).1 refl

-- record i is r, which counts; the records after it
module _ (book table : List ℕ) (r : Record) (good : GoodName r.owner) (counting : counts r ≡ true) (after : List Record) (i : ℕ)
    (alias : is_alias_at table i ≡ is_alias r.type r.class) where
  abbrev owned : ℕ → Bool
  owned j = is_owned_of CaaOrAlias book table (wire r.owner) j

  owned_rival : (k : ℕ) (p : Record) → RowTells book table k p → GoodName p.owner → owned k ≡ is_rival r p
  owned_rival k p t g =
      ap₂ ◌&&◌ (ap₂ ◌||◌ t.caa t.alias)
      (rw t.owner (sym (whole_names.1 p.owner r.owner g good) ∙ same_turned p.owner r.owner))

  -- the first record of the owner of r, from record k on: r itself, or one before it
  first_among :
      (before : List Record) (k : ℕ) → k + length before ≡ i → TellsFrom book table k (before ++ (r ∷ after)) →
      All (λ p. GoodName p.owner) (before ++ (r ∷ after)) →
      clashes_with table i (first_of (select owned (numbers_from k (length (before ++ (r ∷ after)))))) ≡ begins (with_alias r) (select (is_rival r) before)
  first_among [] k e t g =
      rw (owned_rival k r t.0 (All-head g) ∙ ap₂ ◌&&◌ counting (same_self r.owner), le-ltb k i (omega arith))
  first_among (p ∷ before) k e t g = go (true_or_false (is_rival r p)) (first_among before (suc k) (omega arith) t.1 (All-tail g))
    where
      rest : List ℕ
      rest = numbers_from (suc k) (length (before ++ (r ∷ after)))

      go :
          (is_rival r p ≡ true) ⊎ (is_rival r p ≡ false) →
          clashes_with table i (first_of (select owned rest)) ≡ begins (with_alias r) (select (is_rival r) before) →
          clashes_with table i (first_of (cons_if (owned k) k (select owned rest))) ≡ begins (with_alias r) (cons_if (is_rival r p) p (select (is_rival r) before))
      go (inl f) later =
          rw (owned_rival k p t.0 (All-head g) ∙ f, f, lt-ltb k i (omega arith)) (ap₂ ◌||◌ alias t.0.alias)
      go (inr f) later = rw (owned_rival k p t.0 (All-head g) ∙ f, f) later

module _ (book table : List ℕ) where
  row_at :
      (before : List Record) (r : Record) (after : List Record) (k : ℕ) → TellsFrom book table k (before ++ (r ∷ after)) →
      RowTells book table (k + length before) r
  row_at [] r after k t = let here : k + 0 ≡ k = omega arith in rw here t.0
  row_at (p ∷ before) r after k t = let there : k + suc (length before) ≡ suc k + length before = omega arith in rw there (row_at before r after (suc k) t.1)

  good_at : (before : List Record) (r : Record) (after : List Record) → All (λ p. GoodName p.owner) (before ++ (r ∷ after)) → GoodName r.owner
  good_at [] r after g = All-head g
  good_at (p ∷ before) r after g = good_at before r after (All-tail g)

-- the test of record i is right where none before it clashes
right :
    (book : List ℕ) (before : List Record) (r : Record) (after : List Record) → tabled book ≡ before ++ (r ∷ after) → ClashFree before →
    clashes_at book (table_of book) (chains_of book).links (chains_of book).heads (length before) ≡ clashes r before
unfolding clashes_at first_owned clashes
right book before r after split free = go (true_or_false (counts r))
  where
    tells : TellsFrom book (table_of book) 0 (before ++ (r ∷ after))
    tells = rw split at (rows_tell book)

    goods : All (λ p. GoodName p.owner) (before ++ (r ∷ after))
    goods = rw split at (good_owners book)

    row : RowTells book (table_of book) (length before) r
    row = rw zero-add at (row_at book (table_of book) before r after 0 tells)

    first : is_of_kind CaaOrAlias (table_of book) (length before) ≡ counts r
    first = ap₂ ◌||◌ row.caa row.alias

    found :
        first_owned CaaOrAlias book (table_of book) (chains_of book).links (chains_of book).heads (owner_at book (table_of book) (length before))
        ≡ first_of (select (is_owned_of CaaOrAlias book (table_of book) (wire r.owner)) (numbers_from 0 (length (before ++ (r ∷ after)))))
    found = rw (row.owner, chains_skip_nothing CaaOrAlias book (wire r.owner), split)

    go :
        (counts r ≡ true) ⊎ (counts r ≡ false) →
        is_of_kind CaaOrAlias (table_of book) (length before)
        && clashes_with (table_of book) (length before)
        (first_owned CaaOrAlias book (table_of book) (chains_of book).links (chains_of book).heads (owner_at book (table_of book) (length before)))
        ≡ clashes r before
    go (inl c) =
        ap₂ ◌&&◌ (first ∙ c)
        (ap (clashes_with (table_of book) (length before)) found
        ∙ first_among book (table_of book) r (good_at book (table_of book) before r after goods) c after (length before) row.alias before 0 (zero-add (length before)) tells goods)
        ∙ sym (clashes_by_first r before free c)
    go (inr c) = neither _ _ _ _ (first ∙ c) c
      where
        neither : (s t u v : Bool) → s ≡ false → u ≡ false → s && t ≡ u && v
        neither s t u v e f = rw (e, f)

-- rows after the last record are empty, and no record there is in conflict
zeros : (m k : ℕ) → get_or {A = ℕ} (replicate m 0) k 0 ≡ 0
zeros zero k = refl
zeros (suc m) zero = refl
zeros (suc m) (suc k) = zeros m k

module _ (book : List ℕ) where
  empty_cell : (i column : ℕ) → length (tabled book) ≤ i → cell (table_of book) i column ≡ 0
  unfolding cell table_of
  empty_cell i column h = go (ltb i max_records)
    where
      rows : List ℕ
      rows = rows_from 0 (tabled book)

      m : ℕ
      m = 6 * (room_for book - length (tabled book))

      behind : 6 * i + column ≡ length rows + (6 * (i - length (tabled book)) + column)
      behind = omega (arith, rows_long 0 (tabled book))

      go : (t : Bool) → cond t (get_or (rows ++ replicate m 0) (6 * i + column) 0) 0 ≡ 0
      go true = rw behind (get_or-append-add rows (replicate m 0) (6 * (i - length (tabled book)) + column) 0 ∙ zeros m _)
      go false = refl

  abbrev find : ℕ → ℕ → Option ℕ
  find = conflict_from book (table_of book) (chains_of book).links (chains_of book).heads

  none_behind : (m k : ℕ) → length (tabled book) ≤ k → find k m ≡ None
  unfolding clashes_at is_caa_at is_alias_at is_caa is_alias
  none_behind zero k h = refl
  none_behind (suc m) k h = rw (empty_cell k 1 h) (none_behind m (suc k) (omega arith))

  no_more : (n m k : ℕ) → n ≤ m → k + n ≡ length (tabled book) → find k m ≡ find k n
  no_more zero m k h e = none_behind m k (omega arith)
  no_more (suc n) zero k h e = absurd (omega arith)
  no_more (suc n) (suc m) k h e =
      ap (cond (clashes_at book (table_of book) (chains_of book).links (chains_of book).heads k) (Some k)) (no_more n m (suc k) (omega arith) (omega arith))

pub conflict_by_table : ConflictByTable
unfolding first_conflict
conflict_by_table book e =
    let same = laid_out_tabled book e in
    no_more book (length (tabled book)) (length (chains_of book).links) 0 (omega (arith, (chains_fit book).0, (room_enough book).0)) (zero-add (length (tabled book)))
    ∙ rw same
    (sym (first_clash (records book) (clashes_at book (table_of book) (chains_of book).links (chains_of book).heads)
    (conflict_from book (table_of book) (chains_of book).links (chains_of book).heads) (λ k. refl) (λ k n. refl)
    (λ before r after split free. right book before r after (same ∙ split) free)))
