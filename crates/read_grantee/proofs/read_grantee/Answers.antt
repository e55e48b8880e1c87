-- `read_grantee` meets its contract.
use borrow.Author.Rules.{rules}
use Rattle.read_grantee.proofs.Grantees.{nobody_there, parameters_to, limits_not_met, limits_kept}
use Rattle.read_grantee.proofs.read_grantee.Goals as goal

pub returns-in_err-n : goal.returns-in_err-n
returns-in_err-n c = search (rules, nobody_there)

pub slice_bounds-limits_met-count : goal.slice_bounds-limits_met-count
slice_bounds-limits_met-count c = search (rules, parameters_to)

pub slice_bounds-limits_met-start : goal.slice_bounds-limits_met-start
slice_bounds-limits_met-start c = search (rules, parameters_to)

pub returns-then-not-limits_met : goal.returns-then-not-limits_met
returns-then-not-limits_met c = search (rules, limits_not_met)

pub returns : goal.returns
returns c = search (rules, limits_kept)
