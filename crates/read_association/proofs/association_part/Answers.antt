-- `association_part` meets its contract.
use borrow.Author.Rules.{rules}
use Rattle.read_association.proofs.AssociationPlaces.{no_part, part_there}
use Rattle.read_association.proofs.association_part.Goals as goal

pub returns-then-d-lt4 : goal.returns-then-d-lt4
returns-then-d-lt4 c = search (rules, no_part)

pub returns-else-d-lt4 : goal.returns-else-d-lt4
returns-else-d-lt4 c = search (rules, part_there)
