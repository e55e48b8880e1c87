-- `answer_to` meets its contract.
use borrow.Author.Rules.{rules}
use Rattle.book_places.specs.NameAuthorizations.{answer_to}
use Rattle.book_authorization.proofs.answer_to.Goals as goal

pub returns : goal.returns
unfolding answer_to
returns c = search rules
