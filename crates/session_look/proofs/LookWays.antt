-- The ways out of look_in, and the arrays that it is lent.
use Rattle.std.specs.Prelude.{Option, Some, None}
use Prim.Native.Nat.{ℕ, ◌*◌, ◌<◌}
use native.Mathlib.Omega.{arith}
use mathlib.Core.Path.{◌≡◌, refl, ◌∙◌}
use mathlib.Core.Bool.{Bool}
use mathlib.Core.List.{List}
use lib.ListN.{replicate}
use Rattle.spec_limits.specs.Limits.{max_records}
use Rattle.spec_refusal.specs.declared.RecordNo.{RecordNo}
use Rattle.spec_applicant.specs.Applicant.{Applicant}
use Rattle.spec_rule.specs.declared.Judgement.{Judgement}
use Rattle.book_places.specs.Table.{room_for}
use Rattle.book_places.proofs.StandingRecords.{room_enough}
use Rattle.book_places.specs.Chains.{no_record}
use Rattle.book_places.specs.Sets.{looked_up_at}
use Rattle.book_fill.specs.Filled.{filled_table}
use Rattle.book_index.specs.Indexes.{Blank, indexed_chains, indexed_onward}
use Rattle.book_index.proofs.Indexed.{table_of_book, links_of_book, heads_of_book, onward_of_book}
use Rattle.judge_set.specs.BySet.{verdict_by_set}
use Rattle.session_look.specs.Looks.{Made, looked_by, looked_at}

-- by_first
module _ (who : Applicant) (issuer book table links : List ℕ) (up : ℕ) (wildcard : Bool) (o : Option RecordNo) where
  pub first_nothing : o ≡ None → None ≡ looked_by who issuer book table links up wildcard o
  first_nothing e = rw e refl

  pub first_set :
      (set : RecordNo) → o ≡ Some set → (j : Judgement) → j ≡ verdict_by_set who issuer book table links 0 set up wildcard →
      Some j ≡ looked_by who issuer book table links up wildcard o
  first_set set e j g = rw (e, g) refl

-- look_made
pub looks :
    (book table links heads onward : List ℕ) → Made book table links heads onward → (x : List ℕ) (o : Option RecordNo) → o ≡ looked_up_at book table links heads onward x →
    (who : Applicant) (issuer : List ℕ) (up : ℕ) (wildcard : Bool) (r : Option Judgement) → r ≡ looked_by who issuer book table links up wildcard o →
    r ≡ looked_at who issuer book up wildcard x
unfolding looked_at
looks book table links heads onward made x o f who issuer up wildcard r g =
    g ∙ rw (f, made.rows, made.chained, made.headed, made.pointed) refl

-- look_in: what is made in the lent arrays
pub all_made :
    (book table₀ links₀ heads₀ onward₀ : List ℕ) → Blank book table₀ links₀ heads₀ onward₀ → (table links heads onward : List ℕ) →
    table ≡ filled_table book table₀ → links ≡ (indexed_chains book table₀ (record { links = links₀; heads = heads₀ })).links →
    heads ≡ (indexed_chains book table₀ (record { links = links₀; heads = heads₀ })).heads →
    onward ≡ indexed_onward book table₀ (record { links = links₀; heads = heads₀ }) onward₀ → Made book table links heads onward
all_made book table₀ links₀ heads₀ onward₀ blank table links heads onward rows l h n = record {
  rows = table_of_book book table₀ links₀ heads₀ onward₀ blank table rows;
  chained = links_of_book book table₀ links₀ heads₀ onward₀ blank links l;
  headed = heads_of_book book table₀ links₀ heads₀ onward₀ blank heads h;
  pointed = onward_of_book book table₀ links₀ heads₀ onward₀ blank onward n;
}

-- the arrays, by their sizes
module _ (book : List ℕ) (m k : ℕ) (records : k ≡ room_for book) (cells : m ≡ 6 * k) where
  pub blank_arrays : Blank book (replicate m 0) (replicate k no_record) (replicate max_records no_record) (replicate k no_record)
  blank_arrays = rw (cells, records) (record { rows = refl; chained = refl; headed = refl; pointing = refl })

  -- the table is far smaller than the memory
  pub few_cells : m * 2 < 9223372036854775808
  unfolding max_records
  few_cells = omega (arith, (room_enough book).1, records, cells)
