-- `check_in` meets its contract.
use borrow.Author.Rules.{rules}
use Rattle.book_check.proofs.Ways.{by_index}
use Rattle.book_check.proofs.check_in.Goals as goal

pub returns : goal.returns
returns c = search (rules, by_index)
