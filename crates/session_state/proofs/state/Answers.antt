-- `state` meets its contract.
use borrow.Author.Rules.{rules}
use Rattle.session_state.proofs.StateLaws.{says_nothing, says_name, says_neither, says_verdict}
use Rattle.session_state.proofs.state.Goals as goal

pub returns-in_default : goal.returns-in_default
returns-in_default c = search (rules, says_nothing)

pub returns-in-1 : goal.returns-in-1
returns-in-1 c = search (rules, says_name)

pub returns-in-2 : goal.returns-in-2
returns-in-2 c = search (rules, says_verdict)

pub returns-in_default-phase : goal.returns-in_default-phase
returns-in_default-phase c = search (rules, says_neither, c.in_default-phase)
