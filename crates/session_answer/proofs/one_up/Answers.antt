-- `one_up` meets its contract.
use borrow.Author.Rules.{rules}
use Rattle.session_answer.proofs.AnswerLaws.{up_fits, label_off}
use Rattle.session_answer.proofs.one_up.Goals as goal

pub overflow_add-result : goal.overflow_add-result
overflow_add-result c = search (rules, up_fits)

pub returns : goal.returns
returns c = search (rules, label_off)
