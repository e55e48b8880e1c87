-- `pack_judgement` meets its contract; the other cases need no answer.
use borrow.Author.Rules.{rules}
use Rattle.spec_packed.specs.Packed.{packed}
use Rattle.spec_rule.specs.Calls.{judgement_code}
use Rattle.spec_answers.specs.Answers.{packed_judgement}
use Rattle.judge_word.proofs.pack_judgement.Goals as goal

pub returns-in-Permitted : goal.returns-in-Permitted
unfolding packed_judgement judgement_code packed
returns-in-Permitted c = search rules
