-- `held_part` meets its contract.
use borrow.Author.Rules.{rules}
use Rattle.session_kept.proofs.HeldTexts.{held_in_array, held_taken}
use Rattle.session_kept.proofs.held_part.Goals as goal

pub shared_ref_as_front-result : goal.shared_ref_as_front-result
shared_ref_as_front-result c = search (rules, held_in_array)

pub returns : goal.returns
returns c = search (rules, held_taken)
