-- `by_first` meets its contract.
use borrow.Author.Rules.{rules}
use Rattle.session_look.proofs.LookWays.{first_nothing, first_set}
use Rattle.session_look.proofs.by_first.Goals as goal

pub returns-in_err-set : goal.returns-in_err-set
returns-in_err-set c = search (rules, first_nothing)

pub returns : goal.returns
returns c = search (rules, first_set)
