-- What the definitions of this crate mean. Each statement is proved under its name in proofs/.
use Rattle.std.specs.Prelude.{ℕ, ◌≡◌, ◌↔◌, cond, List, [], ◌∷◌, ◌++◌, map, ltb, length, Option, None, Some, Ok, Err}
use Rattle.spec_limits.specs.Limits.{max_names, max_records}
use Rattle.spec_refusal.specs.declared.NameNo.{NameNo}
use Rattle.spec_refusal.specs.declared.RecordNo.{RecordNo}
use Rattle.spec_refusal.specs.declared.Refusal.{Refusal}
use Rattle.spec_refusal.specs.declared.Refusal.TheVariants.{RequestTooLong, BadName, TooManyNames, BadIssuer, BookTooLong, BadRecord, TooManyRecords, NoRoom, BadLine, LineTooLong, BadData, AliasConflict, SessionEnded, BadAccountOrMethod}
use Rattle.spec_refusal.specs.Refusal.{number, place}
use Rattle.spec_refusal.specs.Order.{order, stands_at}
use Rattle.spec_refusal.specs.Checks.{checked}

-- The rows in the order of the table.
abbrev pub rows : NameNo → RecordNo → ℕ → List Refusal
rows k r n =
    RequestTooLong ∷ BadName k ∷ TooManyNames ∷ BadIssuer ∷ BookTooLong ∷ BadRecord r ∷ TooManyRecords ∷ NoRoom n ∷ BadLine
    ∷ LineTooLong ∷ BadData ∷ AliasConflict r ∷ SessionEnded ∷ BadAccountOrMethod ∷ []

abbrev pub RefusalTable : Type 0
RefusalTable =
    (k : NameNo) (r : RecordNo) (n : ℕ) →
    (map number (rows k r n) ≡ 1 ∷ 2 ∷ 3 ∷ 4 ∷ 5 ∷ 6 ∷ 7 ∷ 8 ∷ 9 ∷ 10 ∷ 11 ∷ 12 ∷ 14 ∷ 15 ∷ [])
    × (map place (rows k r n) ≡ 0 ∷ k.0 ∷ max_names ∷ 0 ∷ 0 ∷ r.0 ∷ max_records ∷ n ∷ 0 ∷ 0 ∷ 0 ∷ r.0 ∷ 0 ∷ 0 ∷ [])

-- No two refusals have the same number and the same place.
abbrev pub NumberAndPlaceTell : Type 0
NumberAndPlaceTell = (p q : Refusal) → number p ≡ number q → place p ≡ place q → p ≡ q

-- Those of the numbers ns that are not among ms.
abbrev pub missing : List ℕ → List ℕ → List ℕ
missing [] ms = []
missing (n ∷ ns) ms = cond (ltb (stands_at n ms) (length ms)) [] (n ∷ []) ++ missing ns ms

-- The order of checks has no number twice: each is found at its own position. It has every number of the table except 9, 10 and 11, whose
-- calls have statements of their own (spec_line), and no other number.
abbrev pub OrderPrinted : Type 0
OrderPrinted =
    (map (λ n. stands_at n order) order ≡ 0 ∷ 1 ∷ 2 ∷ 3 ∷ 4 ∷ 5 ∷ 6 ∷ 7 ∷ 8 ∷ 9 ∷ 10 ∷ [])
    × ((k : NameNo) (r : RecordNo) (n : ℕ) →
    (missing (map number (rows k r n)) order ≡ 9 ∷ 10 ∷ 11 ∷ []) × (missing order (map number (rows k r n)) ≡ []))

-- An input is accepted exactly when no refusal applies, and refused with the one that does.
abbrev pub CheckedExactly : Type 0
CheckedExactly =
    (o : Option Refusal) → ((checked o ≡ (Ok tt)) ↔ (o ≡ None)) × ((r : Refusal) → (checked o ≡ Err r) ↔ (o ≡ Some r))
