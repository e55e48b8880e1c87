-- `read_tagged` meets its contract.
use borrow.Author.Rules.{rules}
use Rattle.read_element.proofs.ElementPlaces.{no_element_no_tagged, another_tag, that_tag}
use Rattle.read_element.proofs.read_tagged.Goals as goal

pub returns-in_err-e : goal.returns-in_err-e
returns-in_err-e c = search (rules, no_element_no_tagged)

pub returns-then-e-tag : goal.returns-then-e-tag
returns-then-e-tag c = search (rules, that_tag)

pub returns-else-e-tag : goal.returns-else-e-tag
returns-else-e-tag c = search (rules, another_tag)
