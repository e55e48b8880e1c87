-- `close_session` meets its contract.
use borrow.Author.Rules.{rules}
use Rattle.spec_session.specs.Sessions.{decided}
use Rattle.session_step.proofs.close_session.Goals as goal

pub returns : goal.returns
unfolding decided
returns c = search rules
