-- `touches` meets its contract.
use borrow.Author.Rules.{rules}
use Rattle.edit_reach.proofs.ReachWays.{is_owner, no_record_lem, from_record}
use Rattle.edit_reach.proofs.touches.Goals as goal

pub returns-then-same_ignoring_case : goal.returns-then-same_ignoring_case
returns-then-same_ignoring_case c = search (rules, is_owner)

pub returns-in_default : goal.returns-in_default
returns-in_default c = search (rules, no_record_lem)

pub returns : goal.returns
returns c = search (rules, from_record)
