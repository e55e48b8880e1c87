-- `judge_once` meets its contract.
use borrow.Author.Rules.{rules}
use Rattle.judge_call.proofs.AskedLaws.{note_inside, by_note, noted}
use Rattle.judge_call.proofs.judge_once.Goals as goal

pub bounds-asked-question : goal.bounds-asked-question
bounds-asked-question c = search (rules, note_inside)

pub returns-then-asked-question : goal.returns-then-asked-question
returns-then-asked-question c = search (rules, by_note)

pub bounds-asked-question-2 : goal.bounds-asked-question-2
bounds-asked-question-2 c = search (rules, note_inside)

pub returns : goal.returns
returns c = search (rules, noted)
