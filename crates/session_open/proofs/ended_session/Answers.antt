-- `ended_session` meets its contract.
use borrow.Author.Rules.{rules}
use Rattle.spec_session.specs.Steps.{ended_session}
use Rattle.session_open.proofs.ended_session.Goals as goal

pub returns : goal.returns
unfolding ended_session
returns c = search rules
