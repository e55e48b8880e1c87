-- `go_up` meets its contract.
use borrow.Author.Rules.{rules}
use Rattle.session_answer.proofs.AnswerLaws.{asks_parent_lem, no_parent}
use Rattle.session_answer.proofs.go_up.Goals as goal

pub returns-in-Some : goal.returns-in-Some
returns-in-Some c = search (rules, asks_parent_lem)

pub returns-in-None : goal.returns-in-None
returns-in-None c = search (rules, no_parent)
