-- `are_two_elements` meets its contract.
use borrow.Author.Rules.{rules}
use Rattle.find_key.proofs.TwoElements.{two_there}
use Rattle.find_key.proofs.are_two_elements.Goals as goal

pub returns : goal.returns
returns c = search (rules, two_there)
