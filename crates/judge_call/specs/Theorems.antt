-- What the contract of `judge` means for a caller. Each statement is proved under its name in proofs/, from theorems about the rule.
use Rattle.std.specs.Prelude.{ℕ, ◌≡◌, ◌↔◌, List}
use Rattle.spec_refusal.specs.declared.Refusal.{Refusal}
use Rattle.spec_octets.specs.Octets.{Octets}
use Rattle.spec_request.specs.Request.{requested_names}
use Rattle.spec_record.specs.Records.{records}
use Rattle.spec_applicant.specs.Applicant.{Applicant}
use Rattle.spec_rule.specs.declared.Judgement.{Judgement}
use Rattle.spec_rule.specs.declared.Judgement.TheVariants.{Refused}
use Rattle.spec_rule.specs.RelevantSet.{as_book}
use Rattle.spec_rule.specs.Calls.{judge}
use Rattle.spec_rule.specs.Theorems.{VerdictOn, JudgeRow, FirstRow}

-- Take any answer that equals the definition, as the contract promises. It is a refusal exactly when the table of refusals has a row for it. If no
-- row applies, it is the rule's verdict: 0, 20, 21 or 22, with the numbers of the name, the record and the labels taken off.
abbrev pub AnswerExactly : Type 0
AnswerExactly =
    (request issuer : List ℕ) (who : Applicant) (book : List ℕ) → Octets request → Octets book → (answer : Judgement) → answer ≡ judge request issuer who book →
    ((r : Refusal) → (answer ≡ Refused r) ↔ FirstRow (JudgeRow request issuer who book) r)
    × (((r : Refusal) → JudgeRow request issuer who book r → ⊥) →
    VerdictOn who (as_book (records book)) (requested_names request) issuer answer)
