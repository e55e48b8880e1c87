-- `value_part` meets its contract.
use borrow.Author.Rules.{rules}
use Rattle.read_property.proofs.PropertyPlaces.{no_value, value_inside, value_there}
use Rattle.read_property.proofs.value_part.Goals as goal

pub returns-in-None : goal.returns-in-None
returns-in-None c = search (rules, no_value)

pub slice_bounds-result-count : goal.slice_bounds-result-count
slice_bounds-result-count c = search (rules, value_inside)

pub slice_bounds-result-start : goal.slice_bounds-result-start
slice_bounds-result-start c = search (rules, value_inside)

pub returns-in-Some : goal.returns-in-Some
returns-in-Some c = search (rules, value_there)
