-- `look_at` meets its contract.
use borrow.Author.Rules.{rules}
use Rattle.session_answer.proofs.AskedPart.{asked_inside, looked_there}
use Rattle.session_answer.proofs.look_at.Goals as goal

pub slice_bounds-look-count : goal.slice_bounds-look-count
slice_bounds-look-count c = search (rules, asked_inside)

pub slice_bounds-look-start : goal.slice_bounds-look-start
slice_bounds-look-start c = search (rules, asked_inside)

pub returns : goal.returns
returns c = search (rules, looked_there)
