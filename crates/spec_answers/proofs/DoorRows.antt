-- The table of refusals by number and place, and the table by refusal, have the same rows and the same first row that holds.
use Prim.Native.Nat.{ℕ, zero, suc, ◌≤◌, ◌<◌}
use native.Mathlib.Omega.{arith}
use mathlib.Core.Path.{◌≡◌, refl}
use mathlib.Core.Logic.{◌↔◌, ◌⊎◌, inl, inr, ⊎_map}
use mathlib.Core.Bool.{true}
use mathlib.Core.List.{List, Memᴰ}
use lib.Dec.{eqb}
use borrow.Author.Tests.{eqb-true}
use Rattle.spec_refusal.specs.declared.Refusal.{Refusal}
use Rattle.spec_refusal.specs.declared.Refusal.TheVariants.{RequestTooLong, BadName, TooManyNames, BadIssuer, BookTooLong, BadRecord, TooManyRecords, AliasConflict, NoRoom, BadAccountOrMethod}
use Rattle.spec_refusal.specs.Refusal.{number, place}
use Rattle.spec_refusal.specs.Order.{order, stands_at, rank}
use Rattle.spec_octets.specs.Lists.{all, any}
use Rattle.spec_octets.proofs.ListLaws.{All-member, all_true, any_true}
use Rattle.spec_request.specs.Theorems.{RequestRow}
use Rattle.spec_issuer.specs.Theorems.{IssuerRow}
use Rattle.spec_record.specs.Theorems.{BookRow}
use Rattle.spec_applicant.specs.Theorems.{ApplicantRow}
use Rattle.spec_applicant.specs.Applicant.{Applicant}
use Rattle.spec_rule.specs.Theorems.{RoomRow, JudgeRow, ListRow, FirstRow}
use Rattle.spec_answers.specs.Door.{RequestTable, row_1, row_2, row_3, IssuerTable, row_4, ApplicantTable, row_15, BookTable, row_5, row_6, row_7, row_12, RoomTable, row_8, JudgeTable, ListTable, FirstToHold, NoneHolds}

-- a row by number and place, as a row of a refusal
abbrev pub Found : (Refusal → Type 0) → ℕ → ℕ → Type 0
Found rows n p = (r : Refusal) × (number r ≡ n) × (place r ≡ p) × rows r

-- the two tables have the same rows
pub record SameRows (table : ℕ → ℕ → Type 0) (rows : Refusal → Type 0) : Type 0 where
  pub table_of : (r : Refusal) → rows r → table (number r) (place r)
  pub of_table : (n p : ℕ) → table n p → Found rows n p

-- the rows of two inputs
pub both :
    {T U : ℕ → ℕ → Type 0} {P Q : Refusal → Type 0} → SameRows T P → SameRows U Q →
    SameRows (λ n p. T n p ⊎ U n p) (λ r. P r ⊎ Q r)
both {T} {U} {P} {Q} here behind = record {
  table_of = λ r. ⊎_map (here.table_of r) (behind.table_of r);
  of_table = of_table;
}
  where
    of_table : (n p : ℕ) → T n p ⊎ U n p → Found (λ r. P r ⊎ Q r) n p
    of_table n p (inl h) = let (r, e, f, row) = here.of_table n p h in (r, e, f, inl row)
    of_table n p (inr h) = let (r, e, f, row) = behind.of_table n p h in (r, e, f, inr row)

request_rows : (s : List ℕ) → SameRows (RequestTable s) (RequestRow s)
unfolding number place
request_rows s = record { table_of = table_of; of_table = λ n p h. of_table h }
  where
    table_of : (r : Refusal) → RequestRow s r → RequestTable s (number r) (place r)
    table_of r (inl (e, h)) = rw e (row_1 h)
    table_of r (inr (inl (k, e, h))) = rw e (row_2 k h)
    table_of r (inr (inr (e, h))) = rw e (row_3 h)

    of_table : {n p : ℕ} → RequestTable s n p → Found (RequestRow s) n p
    of_table (row_1 h) = (RequestTooLong, refl, refl, inl (refl, h))
    of_table (row_2 k h) = (BadName (record { 0 = k }), refl, refl, inr (inl (k, refl, h)))
    of_table (row_3 h) = (TooManyNames, refl, refl, inr (inr (refl, h)))

pub issuer_rows : (d : List ℕ) → SameRows (IssuerTable d) (IssuerRow d)
unfolding number place
issuer_rows d = record { table_of = table_of; of_table = λ n p h. of_table h }
  where
    table_of : (r : Refusal) → IssuerRow d r → IssuerTable d (number r) (place r)
    table_of r (e, h) = rw e (row_4 h)

    of_table : {n p : ℕ} → IssuerTable d n p → Found (IssuerRow d) n p
    of_table (row_4 h) = (BadIssuer, refl, refl, (refl, h))

pub applicant_rows : (who : Applicant) → SameRows (ApplicantTable who) (ApplicantRow who)
unfolding number place
applicant_rows who = record { table_of = table_of; of_table = λ n p h. of_table h }
  where
    table_of : (r : Refusal) → ApplicantRow who r → ApplicantTable who (number r) (place r)
    table_of r (e, h) = rw e (row_15 h)

    of_table : {n p : ℕ} → ApplicantTable who n p → Found (ApplicantRow who) n p
    of_table (row_15 h) = (BadAccountOrMethod, refl, refl, (refl, h))

pub book_rows : (b : List ℕ) → SameRows (BookTable b) (BookRow b)
unfolding number place
book_rows b = record { table_of = table_of; of_table = λ n p h. of_table h }
  where
    table_of : (r : Refusal) → BookRow b r → BookTable b (number r) (place r)
    table_of r (inl (e, h)) = rw e (row_5 h)
    table_of r (inr (inl (k, e, h))) = rw e (row_6 k h)
    table_of r (inr (inr (inl (e, h)))) = rw e (row_7 h)
    table_of r (inr (inr (inr (k, e, h)))) = rw e (row_12 k h)

    of_table : {n p : ℕ} → BookTable b n p → Found (BookRow b) n p
    of_table (row_5 h) = (BookTooLong, refl, refl, inl (refl, h))
    of_table (row_6 k h) = (BadRecord (record { 0 = k }), refl, refl, inr (inl (k, refl, h)))
    of_table (row_7 h) = (TooManyRecords, refl, refl, inr (inr (inl (refl, h))))
    of_table (row_12 k h) = (AliasConflict (record { 0 = k }), refl, refl, inr (inr (inr (k, refl, h))))

room_rows : (request : List ℕ) (who : Applicant) (book buffer : List ℕ) → SameRows (RoomTable request who book buffer) (RoomRow request who book buffer)
unfolding number place
room_rows request who book buffer = record { table_of = table_of; of_table = λ n p h. of_table h }
  where
    table_of : (r : Refusal) → RoomRow request who book buffer r → RoomTable request who book buffer (number r) (place r)
    table_of r (n, e, h) = rw e (row_8 n h)

    of_table : {n p : ℕ} → RoomTable request who book buffer n p → Found (RoomRow request who book buffer) n p
    of_table (row_8 n h) = (NoRoom n, refl, refl, (n, refl, h))

pub judge_rows : (request issuer : List ℕ) (who : Applicant) (book : List ℕ) → SameRows (JudgeTable request issuer who book) (JudgeRow request issuer who book)
judge_rows request issuer who book = both (request_rows request) (both (issuer_rows issuer) (both (applicant_rows who) (book_rows book)))

pub list_rows : (request : List ℕ) (who : Applicant) (book buffer : List ℕ) → SameRows (ListTable request who book buffer) (ListRow request who book buffer)
list_rows request who book buffer = both (request_rows request) (both (applicant_rows who) (both (book_rows book) (room_rows request who book buffer)))

-- one of the numbers, by computing
pub one_of : (n : ℕ) (ns : List ℕ) → any (eqb n) ns ≡ true → Memᴰ n ns
one_of n ns e = let (m, there, same) = (any_true (eqb n) ns).0 e in rw (eqb-true n m same) there

-- one of ms is one of ns, if all of them are
pub among : {m : ℕ} (ms ns : List ℕ) → all (λ n. any (eqb n) ns) ms ≡ true → Memᴰ m ms → Memᴰ m ns
among {m} ms ns e there = one_of m ns (All-member ((all_true (λ n. any (eqb n) ns) ms).0 e) there)

-- where no row is the first to hold, none holds
no_first : (rows : Refusal → Type 0) → ((r : Refusal) → FirstRow rows r → ⊥) → (m : ℕ) (r : Refusal) → rank r < m → rows r → ⊥
no_first rows none zero r less h = omega arith
no_first rows none (suc m) r less h = none r (h, λ q lower. no_first rows none m q (omega arith))

-- A call that is refused with r, `Refuses r`, exactly when the row of r is the first to hold; n and a are its word's number and field a.
module _
    {table : ℕ → ℕ → Type 0} {rows : Refusal → Type 0} (same : SameRows table rows) (Refuses : Refusal → Type 0)
    (law : (r : Refusal) → Refuses r ↔ FirstRow rows r) where
  pub none_holds : ((r : Refusal) → Refuses r → ⊥) → NoneHolds table
  none_holds never n p h =
      let (r, en, ep, row) = same.of_table n p h in
      no_first rows (λ q first. never q ((law q).1 first)) (suc (rank r)) r (omega arith) row

  pub never_refuses : NoneHolds table → (r : Refusal) → Refuses r → ⊥
  never_refuses none r h = none (number r) (place r) (same.table_of r ((law r).0 h).0)

  pub refuses_exactly :
      (n a : ℕ) → (1 ≤ n → n ≤ 19 → (r : Refusal) × Refuses r × (number r ≡ n) × (place r ≡ a)) →
      ((r : Refusal) → Refuses r → (n ≡ number r) × (a ≡ place r)) →
      (m p : ℕ) → 1 ≤ m → m ≤ 19 → ((n ≡ m) × (a ≡ p)) ↔ FirstToHold table m p
  unfolding rank
  refuses_exactly n a read says m p low high = (
    λ (en, ea). first (read (omega arith) (omega arith)) en ea,
    λ (row, lower). refused (same.of_table m p row) lower,
  )
    where
      earlier : (r q : Refusal) (i : ℕ) → number q ≡ i → stands_at i order < stands_at (number r) order → rank q < rank r
      earlier r q i e less = rw e less

      behind : (r : Refusal) → FirstRow rows r → (i q : ℕ) → stands_at i order < stands_at (number r) order → table i q → ⊥
      behind r (row, lower) i q less held =
          let (x, en, ep, row) = same.of_table i q held in lower x (earlier r x i en less) row

      first : (r : Refusal) × Refuses r × (number r ≡ n) × (place r ≡ a) → n ≡ m → a ≡ p → FirstToHold table m p
      first (r, h, nr, pr) en ea = rw (← en, ← ea, ← nr, ← pr) (same.table_of r ((law r).0 h).0, behind r ((law r).0 h))

      later : (r q : Refusal) → number r ≡ m → rank q < rank r → stands_at (number q) order < stands_at m order
      later r q e less = rw e at less

      refused : Found rows m p → ((i q : ℕ) → stands_at i order < stands_at m order → table i q → ⊥) → (n ≡ m) × (a ≡ p)
      refused (r, nr, pr, row) lower =
          let (en, ea) = says r ((law r).1 (row, λ q less held. lower (number q) (place q) (later r q nr less) (same.table_of q held))) in
          (omega arith, omega arith)
