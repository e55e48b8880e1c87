-- `put_judgement` meets its contract.
use borrow.Author.Rules.{rules}
use Rattle.desk_judgement.proofs.Answers.{line_put}
use Rattle.desk_judgement.proofs.put_judgement.Goals as goal

pub returns : goal.returns
returns c = search (rules, line_put)
