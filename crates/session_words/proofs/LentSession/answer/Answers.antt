-- `answer` meets its contract: the step, packed.
use borrow.Author.Rules.{rules}
use Rattle.judge_word.proofs.PackedAnswers.{told_packed}
use Rattle.session_words.proofs.PackedSteps.{packed_step}
use Rattle.session_words.proofs.LentSession.answer.Goals as goal

pub returns : goal.returns
returns c = search (rules, told_packed packed_step)
