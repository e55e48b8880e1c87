-- `open` meets its contract.
use borrow.Author.Rules.{rules}
use Rattle.spec_session.specs.Steps.{opened}
use Rattle.session_open.proofs.open.Goals as goal

pub returns-in-Ok : goal.returns-in-Ok
unfolding opened
returns-in-Ok c = search rules

pub returns-in-Err : goal.returns-in-Err
unfolding opened
returns-in-Err c = search rules
