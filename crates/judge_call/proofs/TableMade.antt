-- What is made for a call: the table, the chains and the column of aliases are those of the book.
use Rattle.std.specs.Prelude.{None}
use Prim.Native.Nat.{ℕ, ◌*◌, ◌≤◌, ◌<◌}
use native.Mathlib.Omega.{arith}
use mathlib.Core.Path.{◌≡◌, refl, sym}
use mathlib.Core.Bool.{Bool, false}
use mathlib.Core.List.{List}
use lib.ListN.{length, replicate}
use Rattle.spec_limits.specs.Limits.{max_records}
use Rattle.spec_applicant.specs.Applicant.{Applicant}
use Rattle.spec_rule.specs.Calls.{first_refusal, judge_checks}
use Rattle.book_places.specs.Table.{few_records, short_book, room_for}
use Rattle.book_places.specs.Chains.{no_record}
use Rattle.book_places.proofs.StandingRecords.{room_short, room_long, room_enough}
use Rattle.book_fill.specs.Filled.{filled_table}
use Rattle.book_index.specs.Indexes.{indexed_chains, indexed_onward}
use Rattle.book_index.proofs.Indexed.{table_of_book, links_of_book, heads_of_book, onward_of_book}
use Rattle.judge_call.specs.Asked.{Ready, Asked, Lent, HeadsLent}
use Rattle.judge_call.proofs.AskedLaws.{none_asked}

module _ (who : Applicant) (request issuer book : List ℕ) where
  pub made_ready :
      (table₀ links₀ heads₀ onward₀ : List ℕ) (asked : List Bool) → Lent who request issuer book table₀ links₀ heads₀ onward₀ asked →
      (table links heads onward : List ℕ) →
      table ≡ filled_table book table₀ → links ≡ (indexed_chains book table₀ (record { links = links₀; heads = heads₀ })).links →
      heads ≡ (indexed_chains book table₀ (record { links = links₀; heads = heads₀ })).heads →
      onward ≡ indexed_onward book table₀ (record { links = links₀; heads = heads₀ }) onward₀ →
      Ready who request issuer book table links heads onward × Asked who issuer book table links asked
  made_ready table₀ links₀ heads₀ onward₀ asked lent table links heads onward rows l h o = (
    record {
      accepted = lent.accepted;
      rows = table_of_book book table₀ links₀ heads₀ onward₀ lent.blank table rows;
      chained = links_of_book book table₀ links₀ heads₀ onward₀ lent.blank links l;
      headed = heads_of_book book table₀ links₀ heads₀ onward₀ lent.blank heads h;
      pointed = onward_of_book book table₀ links₀ heads₀ onward₀ lent.blank onward o;
    },
    none_asked who issuer book table links asked lent.unasked,
  )

  pub heads_lent : first_refusal (judge_checks request issuer who book) ≡ None → HeadsLent who request issuer book (replicate max_records no_record)
  heads_lent h = record { accepted = h; headed = refl }

  -- by the sizes of the arrays
  module _ (heads : List ℕ) (lent : HeadsLent who request issuer book heads) (m k n : ℕ) where
    pub lent_sized :
        (k ≡ room_for book) × (m ≡ 6 * k) × (n ≡ 2 * k) →
        Lent who request issuer book (replicate m 0) (replicate k no_record) heads (replicate k no_record) (replicate n false)
    lent_sized (records, cells, questions) = record {
      accepted = lent.accepted;
      blank = rw (cells, records) (record { rows = refl; chained = refl; headed = lent.headed; pointing = refl });
      unasked = rw (questions, records);
    }

-- the table is far smaller than the memory
module _ (book : List ℕ) (m k n : ℕ) (sizes : (k ≡ room_for book) × (m ≡ 6 * k) × (n ≡ 2 * k)) where
  pub cells_fit : m * 2 < 9223372036854775808
  unfolding max_records
  cells_fit = omega (arith, (room_enough book).1, sizes.0, sizes.1)

-- a short book, and any other
module _ (book : List ℕ) where
  pub few_fit : length book ≤ short_book → few_records ≡ room_for book
  few_fit h = sym (room_short book h)

  pub all_fit : short_book < length book → max_records ≡ room_for book
  all_fit h = sym (room_long book h)
