-- `put_desk_line` meets its contract.
use borrow.Author.Rules.{rules}
use Rattle.desk_line.proofs.DeskLines.{bookless_put, judged_put}
use Rattle.desk_line.proofs.put_desk_line.Goals as goal

pub returns-then-not-found : goal.returns-then-not-found
returns-then-not-found c = search (rules, bookless_put)

pub returns : goal.returns
returns c = search (rules, judged_put)
