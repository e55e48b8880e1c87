-- `by_book` meets its contract.
use borrow.Author.Rules.{rules}
use Rattle.session_answer.proofs.AnswerLaws.{stands_there, asks_keeps, never_broken, finds_none, finds_verdict}
use Rattle.session_answer.proofs.by_book.Goals as goal

pub returns-in_default : goal.returns-in_default
returns-in_default c = search (rules, never_broken)

pub look_at-requires : goal.look_at-requires
look_at-requires c = search (rules, stands_there)

pub go_up-requires : goal.go_up-requires
go_up-requires c = search (rules, asks_keeps)

pub returns-in-None : goal.returns-in-None
returns-in-None c = search (rules, finds_none)

pub returns-in-Some-look_at : goal.returns-in-Some-look_at
returns-in-Some-look_at c = search (rules, finds_verdict)
