-- What an answer that is the definition's says, by the theorems about the rule.
use Rattle.std.specs.Prelude.{Option, None, Some}
use Prim.Native.Nat.{ℕ}
use mathlib.Core.Path.{◌≡◌, refl}
use mathlib.Core.List.{List}
use Rattle.spec_refusal.specs.declared.Refusal.{Refusal}
use Rattle.spec_octets.specs.Octets.{Octets}
use Rattle.spec_request.specs.Request.{requested_names}
use Rattle.spec_record.specs.Records.{records}
use Rattle.spec_applicant.specs.Applicant.{Applicant}
use Rattle.spec_rule.specs.RelevantSet.{as_book}
use Rattle.spec_rule.specs.Verdicts.{verdict}
use Rattle.spec_rule.specs.Calls.{decisions, first_refusal, judge_checks, refused_or, judge}
use Rattle.spec_rule.specs.Theorems.{VerdictOn, JudgeRow}
use Rattle.spec_rule.proofs.RefusalLaws.{judge_refusals}
use Rattle.spec_rule.proofs.VerdictLaws.{verdict_by_the_rule}
use Rattle.judge_call.specs.Theorems.{AnswerExactly}

module _ (request issuer : List ℕ) (who : Applicant) (book : List ℕ) where
  -- what is answered where the checks come to c
  judged : (c : Option Refusal) → first_refusal (judge_checks request issuer who book) ≡ c →
      judge request issuer who book ≡ refused_or c (verdict issuer (decisions request who book))
  unfolding judge
  judged c h = rw h

  accepted : Octets request → Octets book → ((r : Refusal) → JudgeRow request issuer who book r → ⊥) → (c : Option Refusal) →
      first_refusal (judge_checks request issuer who book) ≡ c →
      VerdictOn who (as_book (records book)) (requested_names request) issuer (judge request issuer who book)
  unfolding decisions
  accepted o p empty None h = rw (judged None h) (verdict_by_the_rule who (as_book (records book)) (requested_names request) issuer)
  accepted o p empty (Some r) h = absurd (empty r ((judge_refusals request issuer who book o p r).0 (judged (Some r) h)).0)

pub answer_exactly : AnswerExactly
answer_exactly request issuer who book o p answer e = (
  λ r. rw e (judge_refusals request issuer who book o p r),
  λ empty. rw e (accepted request issuer who book o p empty (first_refusal (judge_checks request issuer who book)) refl),
)
