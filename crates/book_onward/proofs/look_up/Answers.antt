-- `look_up` meets its contract.
use borrow.Author.Rules.{rules}
use Rattle.book_places.specs.Sets.{looked_up_at}
use Rattle.book_onward.proofs.look_up.Goals as goal

pub returns-in_err-r : goal.returns-in_err-r
unfolding looked_up_at
returns-in_err-r c = search rules

pub returns : goal.returns
unfolding looked_up_at
returns c = search rules
