-- The answers of the calls, packed into 64 bits: the number of the answer, and its values in the fields.
use Rattle.std.specs.Prelude.{ℕ, get_or}
use Rattle.spec_packed.specs.Packed.{packed}
use Rattle.spec_rule.specs.declared.Judgement.{Judgement}
use Rattle.spec_rule.specs.Calls.{AnswerCode, judgement_code}

-- Value k of an answer, from 0; 0 if the answer has no such value.
abbrev pub value_of : AnswerCode → ℕ → ℕ
value_of t k = get_or t.values k 0

abbrev pub packed_code : AnswerCode → ℕ
packed_code t = packed t.number (value_of t 0) (value_of t 1) (value_of t 2)

unfoldable pub packed_judgement : Judgement → ℕ
packed_judgement j = packed_code (judgement_code j)
