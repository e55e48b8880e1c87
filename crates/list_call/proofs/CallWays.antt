-- permitted_issuers: a law for each way out.
use Rattle.std.specs.Prelude.{Option, None, Some, Result, Ok, Err}
use Prim.Native.Nat.{ℕ, ◌*◌, ◌≤◌, ◌<◌}
use native.Mathlib.Omega.{arith}
use mathlib.Core.Path.{◌≡◌, refl, sym, ap}
use mathlib.Core.List.{List, [], ◌∷◌, ◌++◌}
use lib.ListN.{length, replicate, length-replicate}
use borrow.Author.Tests.{lt-leb, le-leb}
use Rattle.spec_limits.specs.Limits.{max_issuer_octets, max_records}
use Rattle.spec_refusal.specs.declared.Refusal.{Refusal}
use Rattle.spec_refusal.specs.declared.Refusal.TheVariants.{NoRoom}
use Rattle.spec_refusal.specs.Checks.{checked}
use Rattle.spec_refusal.proofs.Checked as checks
use Rattle.spec_octets.specs.Lists.{All}
use Rattle.spec_octets.proofs.ListLaws.{All-imp, All-head, All-tail}
use Rattle.spec_octets.specs.Buffer.{filled}
use Rattle.spec_request.specs.Request.{request_refusal}
use Rattle.spec_applicant.specs.Applicant.{Applicant, applicant_refusal}
use Rattle.spec_record.specs.Records.{book_refusal}
use Rattle.spec_rule.specs.declared.PermittedIssuers.{PermittedIssuers}
use Rattle.spec_rule.specs.declared.PermittedIssuers.TheVariants.{Anyone, Listed, Refused}
use Rattle.spec_rule.specs.IssuerLists.{anyone, listed, issuers}
use Rattle.spec_rule.specs.Calls.{authorizations, first_refusal, room_refusal, Listing, list_issuers}
use Rattle.spec_rule.proofs.PermittedLaws.{permitted_issuers_exactly}
use Rattle.read_inputs.proofs.CheckLaws.{none_refuses}
use Rattle.book_places.specs.Table.{few_records, short_book, room_for}
use Rattle.book_places.specs.Chains.{no_record}
use Rattle.book_places.proofs.StandingRecords.{room_short, room_long, room_enough}
use Rattle.book_fill.specs.Filled.{filled_table}
use Rattle.book_index.specs.Indexes.{indexed_chains, indexed_onward}
use Rattle.book_index.proofs.Indexed.{table_of_book, links_of_book, heads_of_book, onward_of_book}
use Rattle.list_places.specs.declared.Permitted.{Permitted}
use Rattle.list_places.specs.Rounds.{kept_names}
use Rattle.list_places.specs.PermittedBy.{permitted_in}
use Rattle.list_places.proofs.ByOffset.{permitted_by_offset}
use Rattle.list_entry.specs.declared.ListSize.{ListSize}
use Rattle.list_entry.specs.Entries.{entries_of, size_of}
use Rattle.list_entry.proofs.ShortNames.{entries_short}
use Rattle.list_call.specs.Lent.{Lent, HeadsLent, Found}

-- the call's two ensures from one equation
pub halves :
    (who : Applicant) (request book buffer : List ℕ) {after : List ℕ} {answer : PermittedIssuers} → list_issuers request who book buffer ≡ record { answer = answer; buffer = after } →
    (answer ≡ (list_issuers request who book buffer).answer) × (after ≡ (list_issuers request who book buffer).buffer)
halves who request book buffer e = (sym (ap (λ (l : Listing). l.answer) e), sym (ap (λ (l : Listing). l.buffer) e))

-- the same, by the names of the clauses
pub by_clause :
    (who : Applicant) (request book buffer : List ℕ) {after : List ℕ} {answer : PermittedIssuers} → list_issuers request who book buffer ≡ record { answer = answer; buffer = after } →
    record { answer : answer ≡ (list_issuers request who book buffer).answer; octets : after ≡ (list_issuers request who book buffer).buffer }
by_clause who request book buffer e = let both = halves who request book buffer e in record { answer = both.0; octets = both.1 }

-- the first refusal of some checks is the first, whatever is checked behind them
refused_first : (cs more : List (Option Refusal)) (r : Refusal) → first_refusal cs ≡ Some r → first_refusal (cs ++ more) ≡ Some r
refused_first [] more r e = let z : ◌≡◌ {A = ℕ} 0 1 = cc in absurd (omega arith)
refused_first (None ∷ cs) more r e = refused_first cs more r e
refused_first (Some q ∷ cs) more r e = e

-- c is what the checks of request, applicant and book say
module _ (who : Applicant) (request book : List ℕ) (c : Result Unit Refusal)
    (f : c ≡ checked (first_refusal (request_refusal request ∷ applicant_refusal who ∷ book_refusal book ∷ []))) where
  abbrev inputs : List (Option Refusal)
  inputs = request_refusal request ∷ applicant_refusal who ∷ book_refusal book ∷ []

  pub call_refused : (buffer : List ℕ) (r : Refusal) → c ≡ Err r → list_issuers request who book buffer ≡ record { answer = Refused r; buffer = buffer }
  unfolding list_issuers
  call_refused buffer r g =
      rw (refused_first inputs (room_refusal (issuers (authorizations request who book)) buffer ∷ []) r (checks.refused (first_refusal inputs) f r g))

  pub heads_lent : c ≡ (Ok tt) → (heads : List ℕ) → heads ≡ replicate max_records no_record → HeadsLent who request book heads
  heads_lent g heads e =
      let good = none_refuses inputs (checks.accepted (first_refusal inputs) f g) in
      record { names_good = All-head good; applicant_good = All-head (All-tail good); records_good = All-head (All-tail (All-tail good)); headed = e }

-- by the sizes of the arrays
module _ (who : Applicant) (request book heads : List ℕ) (lent : HeadsLent who request book heads) (m k n : ℕ) where
  pub lent_sized :
      (k ≡ room_for book) × (m ≡ 6 * k) × (n ≡ 2 * k) →
      Lent who request book (replicate m 0) (replicate k no_record) heads (replicate k no_record) (replicate n 0) (replicate k 0)
  lent_sized (records, cells, numbers) = record {
    names_good = lent.names_good;
    applicant_good = lent.applicant_good;
    records_good = lent.records_good;
    blank = rw (cells, records) (record { rows = refl; chained = refl; headed = lent.headed; pointing = refl });
    candidates = rw (numbers, records);
    first_round = rw records;
  }

-- the arrays are far smaller than the memory
module _ (book : List ℕ) (m k n : ℕ) (sizes : (k ≡ room_for book) × (m ≡ 6 * k) × (n ≡ 2 * k)) where
  pub cells_fit : m * 2 < 9223372036854775808
  unfolding max_records
  cells_fit = omega (arith, (room_enough book).1, sizes.0, sizes.1)

  pub numbers_fit : n * 2 < 9223372036854775808
  unfolding max_records
  numbers_fit = omega (arith, (room_enough book).1, sizes.0, sizes.2)

-- a short book, and any other
module _ (book : List ℕ) where
  pub few_fit : length book ≤ short_book → few_records ≡ room_for book
  few_fit h = sym (room_short book h)

  pub all_fit : short_book < length book → max_records ≡ room_for book
  all_fit h = sym (room_long book h)

-- what index_book and find_permitted made of what was lent
pub found :
    (who : Applicant) (request book table₀ links₀ heads₀ onward₀ names₀ rounds₀ : List ℕ) → Lent who request book table₀ links₀ heads₀ onward₀ names₀ rounds₀ →
    (table links heads onward : List ℕ) →
    table ≡ filled_table book table₀ → links ≡ (indexed_chains book table₀ (record { links = links₀; heads = heads₀ })).links →
    heads ≡ (indexed_chains book table₀ (record { links = links₀; heads = heads₀ })).heads →
    onward ≡ indexed_onward book table₀ (record { links = links₀; heads = heads₀ }) onward₀ → (p : Option Permitted) (names rounds : List ℕ) →
    p ≡ (permitted_in who request book table links heads onward names₀ rounds₀).answer → names ≡ (permitted_in who request book table links heads onward names₀ rounds₀).names →
    rounds ≡ (permitted_in who request book table links heads onward names₀ rounds₀).rounds → Found who request book names rounds p
found who request book table₀ links₀ heads₀ onward₀ names₀ rounds₀ lent table links heads onward t l h o p names rounds told left last = record {
  names_good = lent.names_good;
  applicant_good = lent.applicant_good;
  records_good = lent.records_good;
  issuers_found =
      rw (
        told,
        left,
        last,
        table_of_book book table₀ links₀ heads₀ onward₀ lent.blank table t,
        links_of_book book table₀ links₀ heads₀ onward₀ lent.blank links l,
        heads_of_book book table₀ links₀ heads₀ onward₀ lent.blank heads h,
        onward_of_book book table₀ links₀ heads₀ onward₀ lent.blank onward o,
        lent.first_round,
      )
      (permitted_by_offset who request book names₀ lent.names_good lent.records_good enough);
}
  where
    enough : 2 * room_for book ≤ length names₀
    enough = rw lent.candidates (omega (arith, length-replicate {A = ℕ} (2 * room_for book) 0))

module _ (book names rounds buffer : List ℕ) (p : Option Permitted) (who : Applicant) (request : List ℕ) (k : Found who request book names rounds p) where
  good : (request_refusal request ≡ None) × (applicant_refusal who ≡ None) × (book_refusal book ≡ None)
  good = (k.names_good, k.applicant_good, k.records_good)

  pub anyone_may : p ≡ None → list_issuers request who book buffer ≡ record { answer = Anyone; buffer = buffer }
  unfolding list_issuers
  anyone_may e = let answer : issuers (authorizations request who book) ≡ anyone = sym (rw e at k.issuers_found) in rw (good.0, good.1, good.2, answer)

  module _ (q : Permitted) (e : p ≡ Some q) where
    abbrev kept : List (List ℕ)
    kept = kept_names book names q.count rounds q.round

    may_sign : issuers (authorizations request who book) ≡ listed kept
    may_sign = sym (rw e at k.issuers_found)

    names_short : All (λ n. length n < 256) kept
    unfolding max_issuer_octets
    names_short = All-imp (λ n w. omega (arith, w.0.1)) ((permitted_issuers_exactly request who book good.0 good.1 good.2).well_formed kept may_sign)

    -- s is the size of the list, and the buffer behind the call of put_entries is `after`
    module _ (s : ListSize) (h : s ≡ size_of (kept_names book names q.count rounds q.round)) (after : List ℕ)
        (w : after ≡ filled (entries_of (kept_names book names q.count rounds q.round)) buffer) (same : length after ≡ length buffer) where
      octets_told : s.octets ≡ length (entries_of kept)
      octets_told = ap (λ (z : ListSize). z.octets) h

      count_told : s.count ≡ length kept
      count_told = ap (λ (z : ListSize). z.count) h

      pub no_room : length after < s.octets → list_issuers request who book buffer ≡ record { answer = Refused (NoRoom s.octets); buffer = after }
      unfolding list_issuers filled
      no_room short =
          rw (
            good.0,
            good.1,
            good.2,
            may_sign,
            ← entries_short kept names_short,
            w,
            octets_told,
            lt-leb (length (entries_of kept)) (length buffer) (omega (arith, octets_told)),
          )

      pub names_listed : s.octets ≤ length after → list_issuers request who book buffer ≡ record { answer = Listed s.count s.octets; buffer = after }
      unfolding list_issuers filled
      names_listed fits =
          rw (
            good.0,
            good.1,
            good.2,
            may_sign,
            ← entries_short kept names_short,
            w,
            count_told,
            octets_told,
            le-leb (length (entries_of kept)) (length buffer) (omega (arith, octets_told)),
          )
