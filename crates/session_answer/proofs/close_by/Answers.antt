-- `close_by` meets its contract.
use borrow.Author.Rules.{rules}
use Rattle.session_answer.proofs.AnswerLaws.{ends_0, ends_20, ends_21, ends_22, ends_refused}
use Rattle.session_answer.proofs.close_by.Goals as goal

pub returns-in-Permitted : goal.returns-in-Permitted
returns-in-Permitted c = search (rules, ends_0)

pub returns-in-UnknownCritical : goal.returns-in-UnknownCritical
returns-in-UnknownCritical c = search (rules, ends_20)

pub returns-in-NotGranted : goal.returns-in-NotGranted
returns-in-NotGranted c = search (rules, ends_21)

pub returns-in-TooManyAliases : goal.returns-in-TooManyAliases
returns-in-TooManyAliases c = search (rules, ends_22)

pub returns-in-Refused : goal.returns-in-Refused
returns-in-Refused c = search (rules, ends_refused)
