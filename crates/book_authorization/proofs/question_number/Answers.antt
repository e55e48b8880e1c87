-- `question_number` meets its contract.
use borrow.Author.Rules.{rules}
use Rattle.book_places.specs.NameAuthorizations.{question_number}
use Rattle.book_authorization.proofs.question_number.Goals as goal

pub returns : goal.returns
unfolding question_number
returns c = search rules
