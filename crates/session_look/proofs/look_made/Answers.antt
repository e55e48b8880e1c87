-- `look_made` meets its contract.
use borrow.Author.Rules.{rules}
use Rattle.session_look.proofs.LookWays.{looks}
use Rattle.session_look.proofs.look_made.Goals as goal

pub returns : goal.returns
returns c = search (rules, looks)
