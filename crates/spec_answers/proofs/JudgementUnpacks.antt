-- Unpacking a packed judgement gives its number and values: each fits its field.
use Prim.Native.Nat.{◌^◌, ◌≤◌, ◌<◌}
use native.Mathlib.Omega.{arith}
use Rattle.spec_limits.specs.Limits.{max_names, max_records}
use Rattle.spec_packed.specs.Packed.{packed}
use Rattle.spec_packed.proofs.Unpacking.{number_small}
use Rattle.spec_rule.specs.declared.Judgement.{Judgement}
use Rattle.spec_rule.specs.declared.Judgement.TheVariants.{Permitted, UnknownCritical, NotGranted, TooManyAliases, Refused}
use Rattle.spec_rule.specs.Calls.{AnswerCode, judge, judgement_code}
use Rattle.spec_answers.specs.Answers.{value_of, packed_code, packed_judgement}
use Rattle.spec_answers.specs.Theorems.{Unpacked, JudgementUnpacks}
use Rattle.spec_answers.proofs.NumberBounds.{Fits, judge_fits}

pub told_unpacks : (t : AnswerCode) → t.number < 2 ^ 8 → value_of t 0 < 2 ^ 24 → value_of t 1 < 2 ^ 16 → value_of t 2 < 2 ^ 16 → Unpacked (packed_code t) t
unfolding packed
told_unpacks t n a b c = omega arith

pub fitting_unpacks : (j : Judgement) → Fits j → Unpacked (packed_judgement j) (judgement_code j)
unfolding packed_judgement judgement_code max_names max_records
fitting_unpacks Permitted h = told_unpacks (judgement_code Permitted) (omega arith) (omega arith) (omega arith) (omega arith)
fitting_unpacks (UnknownCritical d) h = told_unpacks (judgement_code (UnknownCritical d)) (omega arith) (omega arith) (omega arith) (omega arith)
fitting_unpacks (NotGranted d) h = told_unpacks (judgement_code (NotGranted d)) (omega arith) (omega arith) (omega arith) (omega arith)
fitting_unpacks (TooManyAliases d) h = told_unpacks (judgement_code (TooManyAliases d)) (omega arith) (omega arith) (omega arith) (omega arith)
fitting_unpacks (Refused r) h = told_unpacks (judgement_code (Refused r)) (number_small r) h (omega arith) (omega arith)

-- the labels taken off
pub up_small : (j : Judgement) → Fits j → value_of (judgement_code j) 2 ≤ 126
unfolding judgement_code
up_small Permitted h = omega arith
up_small (UnknownCritical d) h = omega arith
up_small (NotGranted d) h = omega arith
up_small (TooManyAliases d) h = omega arith
up_small (Refused r) h = omega arith

pub judgement_unpacks : JudgementUnpacks
judgement_unpacks request issuer who book = fitting_unpacks (judge request issuer who book) (judge_fits request issuer who book)
