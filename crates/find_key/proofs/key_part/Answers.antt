-- `key_part` meets its contract.
use borrow.Author.Rules.{rules}
use Rattle.find_key.proofs.KeyWays.{no_part, part_order, part_inside, part_there}
use Rattle.find_key.proofs.key_part.Goals as goal

pub returns-in-None : goal.returns-in-None
returns-in-None c = search (rules, no_part)

pub slice_bounds-result-count : goal.slice_bounds-result-count
slice_bounds-result-count c = search (rules, part_order)

pub slice_bounds-result-start : goal.slice_bounds-result-start
slice_bounds-result-start c = search (rules, part_order)

pub slice_bounds-result-end : goal.slice_bounds-result-end
slice_bounds-result-end c = search (rules, part_inside)

pub returns-in-Some : goal.returns-in-Some
returns-in-Some c = search (rules, part_there)
