-- The refusals of the session calls, by number and place: the table's rows, and the first that holds.
use Prim.Native.Nat.{ℕ, ◌≤◌}
use mathlib.Core.Path.{◌≡◌, refl}
use mathlib.Core.Logic.{◌↔◌, inl, inr}
use mathlib.Core.List.{List}
use Rattle.spec_refusal.specs.declared.Refusal.{Refusal}
use Rattle.spec_refusal.specs.declared.Refusal.TheVariants.{RequestTooLong, BadName, SessionEnded}
use Rattle.spec_refusal.specs.Refusal.{number, place}
use Rattle.spec_applicant.specs.Applicant.{Applicant}
use Rattle.spec_rule.specs.declared.Judgement.TheVariants.{Refused}
use Rattle.spec_rule.specs.Calls.{judgement_code}
use Rattle.spec_rule.specs.Theorems.{FirstRow}
use Rattle.spec_packed.specs.Packed.{number_in, field_a, field_b, field_c}
use Rattle.spec_answers.specs.Door.{FirstToHold}
use Rattle.spec_answers.proofs.DoorRows.{Found, SameRows, both, issuer_rows, applicant_rows, book_rows, refuses_exactly}
use Rattle.spec_session.specs.declared.Session.{Session}
use Rattle.spec_session.specs.declared.SessionAnswer.{SessionAnswer}
use Rattle.spec_session.specs.declared.SessionAnswer.TheVariants.{Judged}
use Rattle.spec_session.specs.Steps.{book, session_code}
use Rattle.spec_session.specs.Meaning.{OneNameRow, OpenRow, EndedRow, AnswerRow}
use Rattle.spec_session_words.specs.SessionWords.{packed_session}
use Rattle.spec_session_words.specs.SessionDoor.{OneNameTable, row_1, row_2, EndedTable, row_14, OpenTable, AnswerTable}
use Rattle.spec_session_words.proofs.SessionUnpacks.{FitsAnswer, session_unpacks}
use Rattle.spec_session_words.proofs.WordAnswers.{HoldsAnswer, of_session, word_refused}

one_name_rows : (s : List ℕ) → SameRows (OneNameTable s) (OneNameRow s)
unfolding number place
one_name_rows s = record { table_of = table_of; of_table = λ n p h. of_table h }
  where
    table_of : (r : Refusal) → OneNameRow s r → OneNameTable s (number r) (place r)
    table_of r (inl (e, h)) = rw e (row_1 h)
    table_of r (inr (k, e, h)) = rw e (row_2 k h)

    of_table : {n p : ℕ} → OneNameTable s n p → Found (OneNameRow s) n p
    of_table (row_1 h) = (RequestTooLong, refl, refl, inl (refl, h))
    of_table (row_2 k h) = (BadName (record { 0 = k }), refl, refl, inr (k, refl, h))

pub ended_rows : (s : Session) → SameRows (EndedTable s) (EndedRow s)
unfolding number place
ended_rows s = record { table_of = table_of; of_table = λ n p h. of_table h }
  where
    table_of : (r : Refusal) → EndedRow s r → EndedTable s (number r) (place r)
    table_of r (e, h) = rw e (row_14 h)

    of_table : {n p : ℕ} → EndedTable s n p → Found (EndedRow s) n p
    of_table (row_14 h) = (SessionEnded, refl, refl, (refl, h))

pub open_rows : (request issuer : List ℕ) (who : Applicant) → SameRows (OpenTable request issuer who) (OpenRow request issuer who)
open_rows request issuer who = both (one_name_rows request) (both (issuer_rows issuer) (applicant_rows who))

pub answer_rows : (s : Session) (b : List ℕ) → SameRows (AnswerTable s b) (AnswerRow s (book b))
answer_rows s b = both (ended_rows s) (book_rows b)

-- a word holds its answer
pub word_holds :
    (x : SessionAnswer) → FitsAnswer x →
    HoldsAnswer (number_in (packed_session x)) (field_a (packed_session x)) (field_b (packed_session x)) (field_c (packed_session x)) x
word_holds x fits = session_unpacks x fits

-- a call that answers x, and is refused exactly by the first row that holds
pub refused_word :
    (x : SessionAnswer) → FitsAnswer x → {table : ℕ → ℕ → Type 0} {rows : Refusal → Type 0} → SameRows table rows →
    ((r : Refusal) → (x ≡ Judged (Refused r)) ↔ FirstRow rows r) → (n p : ℕ) → 1 ≤ n → n ≤ 19 →
    ((number_in (packed_session x) ≡ n) × (field_a (packed_session x) ≡ p)) ↔ FirstToHold table n p
unfolding session_code judgement_code
refused_word x fits same law =
    refuses_exactly same (λ r. x ≡ Judged (Refused r)) law _ _
    (word_refused _ _ _ _ x (word_holds x fits)) (λ r e. let h = of_session _ _ _ _ e (word_holds x fits) in (h.0, h.1))
