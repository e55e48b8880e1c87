-- What the functions need that check a book: the arrays made for it, and a law for each result of checking its records.
use Rattle.book_places.proofs.StandingRecords.{room_short, room_long}
use borrow.Author.Tests.{leb-true, leb-false}
use lib.Dec.{leb}
use Rattle.std.specs.Prelude.{Option, None, Some, Result, Ok, Err}
use Prim.Native.Nat.{ℕ, suc, ◌*◌, ◌≤◌, ◌<◌}
use native.Mathlib.Omega.{arith}
use mathlib.Core.Path.{◌≡◌, refl, sym, ◌∙◌}
use mathlib.Core.Bool.{Bool, true, false, ◌&&◌, ◌||◌, and-false}
use mathlib.Core.List.{List, [], ◌∷◌}
use lib.ListN.{length, replicate}
use Rattle.spec_limits.specs.Limits.{max_records}
use Rattle.spec_refusal.specs.Checks.{checked}
use Rattle.spec_refusal.specs.declared.Refusal.{Refusal}
use Rattle.spec_octets.specs.Lists.{any}
use Rattle.spec_octets.proofs.ListLaws.{or_eq_false, any_false, All-imp}
use Rattle.spec_record.specs.Records.{Record, records, layout_refusal, counts, clashes, clash_from, conflict_at, conflict_refusal, or_refusal, book_refusal}
use Rattle.read_record.specs.Layouts.{is_alias_record, layout_told, layout_of}
use Rattle.book_places.specs.Table.{room_for, few_records, short_book}
use Rattle.book_places.specs.Chains.{Chains, at_most, linked_below, no_record}
use Rattle.book_places.specs.Conflicts.{conflict_from, first_conflict}
use Rattle.book_places.proofs.ConflictLaws.{conflict_by_table}
use Rattle.book_fill.specs.Filled.{filled_rows, filled_table}
use Rattle.book_index.specs.Indexes.{Blank}
use Rattle.book_index.proofs.Indexed.{links_made, heads_made, table_of_book, links_of_book, heads_of_book}

-- check_in
pub by_index :
    (book table₀ links₀ heads₀ : List ℕ) → Blank book table₀ links₀ heads₀ links₀ → (table links heads : List ℕ) (n : ℕ) → table ≡ filled_table book table₀ →
    n ≡ filled_rows book table₀ → links ≡ (linked_below book table (at_most max_records n) (record { links = links₀; heads = heads₀ })).links →
    heads ≡ (linked_below book table (at_most max_records n) (record { links = links₀; heads = heads₀ })).heads → (r : Result Unit Refusal) →
    r ≡ checked (conflict_at (conflict_from book table links heads 0 (length links))) → r ≡ checked (conflict_at (first_conflict book))
unfolding first_conflict
by_index book table₀ links₀ heads₀ blank table links heads n rows count l h r e =
    let c : Chains = record { links = links₀; heads = heads₀ } in
    e ∙ rw (
      links_of_book book table₀ links₀ heads₀ links₀ blank links (links_made book table₀ table n c rows count links l),
      heads_of_book book table₀ links₀ heads₀ links₀ blank heads (heads_made book table₀ table n c rows count heads h),
      table_of_book book table₀ links₀ heads₀ links₀ blank table rows,
    )

-- check_book: without an alias there is no conflict
none_before : (r : Record) (before : List Record) → is_alias_record r ≡ false → any is_alias_record before ≡ false → clashes r before ≡ false
unfolding clashes
none_before r before e f =
    rw ((any_false _ before).1 (All-imp (λ p g. off (counts p) _ _ _ e g) ((any_false is_alias_record before).0 f))) (and-false (counts r))
  where
    off : (c s x y : Bool) → x ≡ false → y ≡ false → c && ((x || y) && s) ≡ false
    off c s x y e f = rw (e, f) (and-false c)

no_conflict : (k : ℕ) (before rs : List Record) → any is_alias_record before ≡ false → any is_alias_record rs ≡ false → clash_from k before rs ≡ None
no_conflict k before [] e f = refl
no_conflict k before (r ∷ rs) e f =
    let (g, h) = (or_eq_false (is_alias_record r) (any is_alias_record rs)).0 f in
    rw (none_before r before g e) (no_conflict (suc k) (r ∷ before) rs ((or_eq_false (is_alias_record r) (any is_alias_record before)).1 (g, e)) h)

module _ (b : List ℕ) (o : Result Bool Refusal) (f : o ≡ layout_of b) where
  pub not_laid_out : (r : Refusal) → o ≡ Err r → Err r ≡ checked (book_refusal b)
  unfolding layout_of book_refusal
  not_laid_out r g = go (layout_refusal b) (any is_alias_record (records b)) (sym f ∙ g)
    where
      go : (c : Option Refusal) (t : Bool) → layout_told c t ≡ Err r → Err r ≡ checked (or_refusal c (conflict_refusal (records b)))
      go None true e = let z : ◌≡◌ {A = ℕ} 0 1 = cc in absurd (omega arith)
      go None false e = let z : ◌≡◌ {A = ℕ} 0 1 = cc in absurd (omega arith)
      go (Some q) t e = cc

  pub plain_book : o ≡ (Ok false) → (Ok tt) ≡ checked (book_refusal b)
  unfolding layout_of book_refusal conflict_refusal
  plain_book g = go (layout_refusal b) (any is_alias_record (records b)) refl (sym f ∙ g)
    where
      go :
          (c : Option Refusal) (t : Bool) → any is_alias_record (records b) ≡ t → layout_told c t ≡ (Ok false) →
          (Ok tt) ≡ checked (or_refusal c (conflict_at (clash_from 0 [] (records b))))
      go None true a e = let z : ◌≡◌ {A = ℕ} 0 1 = cc in absurd (omega arith)
      go None false a e = rw (no_conflict 0 [] (records b) refl a)
      go (Some q) t a e = let z : ◌≡◌ {A = ℕ} 0 1 = cc in absurd (omega arith)

  pub book_by_conflicts : o ≡ (Ok true) → (c : Result Unit Refusal) → c ≡ checked (conflict_at (first_conflict b)) → c ≡ checked (book_refusal b)
  unfolding layout_of book_refusal conflict_refusal
  book_by_conflicts g c h = h ∙ go (layout_refusal b) refl (any is_alias_record (records b)) (sym f ∙ g)
    where
      go :
          (d : Option Refusal) → layout_refusal b ≡ d → (t : Bool) → layout_told d t ≡ (Ok true) →
          checked (conflict_at (first_conflict b)) ≡ checked (or_refusal d (conflict_at (clash_from 0 [] (records b))))
      go None l t e = rw (conflict_by_table b l)
      go (Some q) l t e = let z : ◌≡◌ {A = ℕ} 0 1 = cc in absurd (omega arith)

-- the arrays that check_with makes
pub blank_arrays :
    (book : List ℕ) (m k : ℕ) → k ≡ room_for book → m ≡ 6 * k →
    Blank book (replicate m 0) (replicate k no_record) (replicate max_records no_record) (replicate k no_record)
blank_arrays book m k e f = rw (f, e) (record { rows = refl; chained = refl; headed = refl; pointing = refl })

pub few_cells : (book : List ℕ) (m k : ℕ) → k ≡ room_for book → m ≡ 6 * k → m * 2 < 9223372036854775808
unfolding few_records max_records
few_cells book m k e f = by (leb (length book) short_book) refl
  where
    by : (t : Bool) → leb (length book) short_book ≡ t → m * 2 < 9223372036854775808
    by true h = omega (arith, room_short book (leb-true (length book) short_book h))
    by false h = omega (arith, room_long book (leb-false (length book) short_book h))
