-- Packed answers as numbers, by computing.
use mathlib.Core.Path.{refl}
use Rattle.spec_limits.specs.Limits.{max_names, max_records}
use Rattle.spec_refusal.specs.Refusal.{number, place}
use Rattle.spec_packed.specs.Packed.{packed}
use Rattle.spec_rule.specs.Calls.{judgement_code, permitted_issuers_code}
use Rattle.spec_answers.specs.Answers.{packed_judgement}
use Rattle.spec_answers.specs.ListAnswers.{packed_issuers}
use Rattle.spec_answers.specs.LineAnswers.{line_code, packed_line}
use Rattle.spec_answers.specs.Theorems.{PackedAnswers, LargestAnswers}

pub packed_answers : PackedAnswers
unfolding max_names max_records number place packed judgement_code permitted_issuers_code packed_judgement packed_issuers line_code packed_line
packed_answers =
    (refl, refl, refl, refl, refl, refl, refl, refl, refl, refl, refl, refl, refl, refl, refl, refl, refl, refl, refl, refl, refl, refl, refl)

pub largest_answers : LargestAnswers
unfolding max_names max_records number place packed judgement_code permitted_issuers_code packed_judgement packed_issuers line_code packed_line
largest_answers = (
  (refl, refl, refl, refl, refl),
  (refl, refl, refl, refl, refl),
  (refl, refl, refl, refl, refl),
  (refl, refl, refl, refl, refl),
  (refl, refl, refl, refl, refl),
  (refl, refl, refl, refl, refl),
  (refl, refl, refl, refl, refl),
  (refl, refl, refl, refl, refl),
  (refl, refl, refl, refl, refl),
  (refl, refl, refl, refl, refl),
  (refl, refl, refl, refl, refl),
  (refl, refl, refl, refl, refl),
)
