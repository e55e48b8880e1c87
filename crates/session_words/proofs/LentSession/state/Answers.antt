-- `state` meets its contract: the state, packed.
use borrow.Author.Rules.{rules}
use Rattle.judge_word.proofs.PackedAnswers.{told_packed}
use Rattle.spec_session_words.specs.SessionWords.{packed_session}
use Rattle.session_words.proofs.LentSession.state.Goals as goal

pub returns : goal.returns
returns c = search (rules, told_packed packed_session)
