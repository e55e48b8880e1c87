-- `read_association` meets its contract.
use borrow.Author.Rules.{rules}
use Rattle.read_association.proofs.AssociationPlaces.{no_fields, fields_stand}
use Rattle.read_association.proofs.read_association.Goals as goal

pub returns-in_default : goal.returns-in_default
returns-in_default c = search (rules, no_fields)

pub returns-in-len4-up : goal.returns-in-len4-up
returns-in-len4-up c = search (rules, fields_stand)
