-- `grants` meets its contract.
use borrow.Author.Rules.{rules}
use Rattle.read_grantee.proofs.Grantees.{issuer_from, issuer_to, parameters_to}
use Rattle.book_tests.proofs.GrantTests.{nobody, other_named, limits_tested}
use Rattle.book_tests.proofs.grants.Goals as goal

pub returns-in_default : goal.returns-in_default
returns-in_default c = search (rules, nobody)

pub slice_bounds-name-count : goal.slice_bounds-name-count
slice_bounds-name-count c = search (rules, issuer_from)

pub slice_bounds-name-start : goal.slice_bounds-name-start
slice_bounds-name-start c = search (rules, issuer_from)

pub slice_bounds-name-end : goal.slice_bounds-name-end
slice_bounds-name-end c = search (rules, issuer_to)

pub returns-else-same_ignoring_case : goal.returns-else-same_ignoring_case
returns-else-same_ignoring_case c = search (rules, other_named)

pub slice_bounds-limits_met-count : goal.slice_bounds-limits_met-count
slice_bounds-limits_met-count c = search (rules, parameters_to)

pub slice_bounds-limits_met-start : goal.slice_bounds-limits_met-start
slice_bounds-limits_met-start c = search (rules, parameters_to)

pub returns-then-same_ignoring_case : goal.returns-then-same_ignoring_case
returns-then-same_ignoring_case c = search (rules, limits_tested)
