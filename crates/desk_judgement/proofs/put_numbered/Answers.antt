-- `put_numbered` meets its contract.
use borrow.Author.Rules.{rules}
use Rattle.desk_judgement.proofs.Puts.{more_put}
use Rattle.desk_judgement.proofs.put_numbered.Goals as goal

pub returns : goal.returns
returns c = search (rules, more_put)
