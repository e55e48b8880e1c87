-- `put_answer` meets its contract, by cases of the judgement.
use borrow.Author.Rules.{rules}
use Rattle.desk_judgement.proofs.Answers.{permitted-put, permitted-few, critical-put, not-granted-put, too-many-put, refused-put}
use Rattle.desk_judgement.proofs.put_answer.Goals as goal

pub returns-in-Permitted : goal.returns-in-Permitted
returns-in-Permitted c = search (rules, permitted-put, permitted-few)

pub returns-in-UnknownCritical : goal.returns-in-UnknownCritical
returns-in-UnknownCritical c = search (rules, critical-put)

pub returns-in-NotGranted : goal.returns-in-NotGranted
returns-in-NotGranted c = search (rules, not-granted-put)

pub returns-in-TooManyAliases : goal.returns-in-TooManyAliases
returns-in-TooManyAliases c = search (rules, too-many-put)

pub returns-in-Refused : goal.returns-in-Refused
returns-in-Refused c = search (rules, refused-put)
