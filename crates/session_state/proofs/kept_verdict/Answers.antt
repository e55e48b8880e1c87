-- `kept_verdict` meets its contract.
use borrow.Author.Rules.{rules}
use Rattle.spec_limits.specs.Limits.{max_records}
use Rattle.session_state.proofs.StateLaws.{is_0, is_20, is_21, is_22, is_23, is_beyond, is_none}
use Rattle.session_state.proofs.kept_verdict.Goals as goal

pub returns-in-0 : goal.returns-in-0
returns-in-0 c = search (rules, is_0)

pub returns-in-23 : goal.returns-in-23
returns-in-23 c = search (rules, is_23)

pub returns-in_default : goal.returns-in_default
unfolding max_records
returns-in_default c = search (rules, is_beyond, c.in_default)

pub returns-in-20 : goal.returns-in-20
unfolding max_records
returns-in-20 c = search (rules, is_20)

pub returns-in-21 : goal.returns-in-21
unfolding max_records
returns-in-21 c = search (rules, is_21)

pub returns-in-22 : goal.returns-in-22
unfolding max_records
returns-in-22 c = search (rules, is_22)

pub returns-in_default-2 : goal.returns-in_default-2
returns-in_default-2 c = search (rules, is_none, c.in_default, c.in_default-2)
