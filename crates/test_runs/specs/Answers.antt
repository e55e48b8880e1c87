-- The call with the number of a test case, on the inputs of the case: 1 judges, 2 lists, 3 writes a line, any other number reads one.
use Rattle.std.specs.Prelude.{ℕ, cond, List, eqb}
use Rattle.spec_line.specs.Calls.{write_line, parse_line}
use Rattle.spec_applicant.specs.Applicant.{Applicant}
use Rattle.spec_rule.specs.Calls.{judge, list_issuers}
use Rattle.spec_answers.specs.Answers.{packed_judgement}
use Rattle.spec_answers.specs.ListAnswers.{packed_issuers}
use Rattle.spec_answers.specs.LineAnswers.{packed_line}

-- The packed answer. For 3 and 4, `request` is the data or the line.
unfoldable pub answer_of : ℕ → List ℕ → List ℕ → Applicant → List ℕ → List ℕ → ℕ
answer_of call request issuer who book buffer =
    cond (eqb call 1) (packed_judgement (judge request issuer who book))
    (cond (eqb call 2) (packed_issuers (list_issuers request who book buffer).answer)
    (cond (eqb call 3) (packed_line (write_line request buffer).answer)
    (packed_line (parse_line request buffer).answer)))

-- The caller's buffer afterwards; judging takes no buffer.
unfoldable pub buffer_after : ℕ → List ℕ → Applicant → List ℕ → List ℕ → List ℕ
buffer_after call request who book buffer =
    cond (eqb call 1) buffer
    (cond (eqb call 2) (list_issuers request who book buffer).buffer
    (cond (eqb call 3) (write_line request buffer).buffer
    (parse_line request buffer).buffer))
