-- `nearest_record` meets its contract.
use borrow.Author.Rules.{rules}
use Rattle.book_climb.proofs.ClimbLaws.{record_told}
use Rattle.book_climb.proofs.nearest_record.Goals as goal

pub returns : goal.returns
returns c = search (rules, record_told)
