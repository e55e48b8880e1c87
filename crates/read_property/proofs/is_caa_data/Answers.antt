-- `is_caa_data` meets its contract.
use borrow.Author.Rules.{rules}
use Rattle.read_property.proofs.PropertyPlaces.{no_caa_data, tag_inside, value_after, value_inside, caa_data_by_tag}
use Rattle.read_property.proofs.is_caa_data.Goals as goal

pub returns-in-None : goal.returns-in-None
returns-in-None c = search (rules, no_caa_data)

pub slice_bounds-all_of-count : goal.slice_bounds-all_of-count
slice_bounds-all_of-count c = search (rules, value_after, value_inside)

pub slice_bounds-all_of-start : goal.slice_bounds-all_of-start
slice_bounds-all_of-start c = search (rules, value_after, value_inside)

pub slice_bounds-all_of-end : goal.slice_bounds-all_of-end
slice_bounds-all_of-end c = search (rules, tag_inside, value_inside)

pub returns-in-Some : goal.returns-in-Some
returns-in-Some c = search (rules, caa_data_by_tag)
