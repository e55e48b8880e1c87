-- `first_number` meets its contract.
use borrow.Author.Rules.{rules}
use Rattle.book_onward.proofs.OnwardWays.{none_found, one_found}
use Rattle.book_onward.proofs.first_number.Goals as goal

pub returns-in-Some : goal.returns-in-Some
returns-in-Some c = search (rules, one_found)

pub returns-in-None : goal.returns-in-None
returns-in-None c = search (rules, none_found)
