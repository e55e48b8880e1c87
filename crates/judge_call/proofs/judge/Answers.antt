-- `judge` meets its contract.
use borrow.Author.Rules.{rules}
use Rattle.judge_call.proofs.NameWalk.{input_refused, none_refused}
use Rattle.judge_call.proofs.judge.Goals as goal

pub returns-in-Err : goal.returns-in-Err
returns-in-Err c = search (rules, input_refused)

pub judge_accepted-requires : goal.judge_accepted-requires
judge_accepted-requires c = search (rules, none_refused)
