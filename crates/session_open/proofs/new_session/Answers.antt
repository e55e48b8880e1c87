-- `new_session` meets its contract.
use borrow.Author.Rules.{rules}
use Rattle.spec_session.specs.Sessions.{asking}
use Rattle.spec_session.specs.Steps.{session_of}
use Rattle.session_open.proofs.new_session.Goals as goal

pub returns : goal.returns
unfolding asking session_of
returns c = search rules
