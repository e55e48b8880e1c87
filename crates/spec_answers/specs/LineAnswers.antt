-- The answers of writing and reading a line, packed.
use Rattle.spec_refusal.specs.declared.Refusal.{Refusal}
use Rattle.std.specs.Prelude.{ℕ, [], ◌∷◌, Result, Ok, Err}
use Rattle.spec_rule.specs.Calls.{AnswerCode, refusal_code}
use Rattle.spec_answers.specs.Answers.{packed_code}

-- Number 0 with the length of the output, or the refusal.
unfoldable pub line_code : Result ℕ Refusal → AnswerCode
line_code (Ok n) = record { number = 0; values = n ∷ [] }
line_code (Err r) = refusal_code r

unfoldable pub packed_line : Result ℕ Refusal → ℕ
packed_line m = packed_code (line_code m)
