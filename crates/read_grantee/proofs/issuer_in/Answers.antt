-- `issuer_in` meets its contract.
use borrow.Author.Rules.{rules}
use Rattle.read_value.proofs.ValuePlaces.{name_from, name_to}
use Rattle.read_grantee.proofs.Grantees.{no_name, value_within, first_fits, end_fits, parameters_fit, name_no_issuer, name_issuer}
use Rattle.read_grantee.proofs.issuer_in.Goals as goal

pub returns-in_default : goal.returns-in_default
returns-in_default c = search (rules, no_name)

pub slice_bounds-is_issuer-count : goal.slice_bounds-is_issuer-count
slice_bounds-is_issuer-count c = search (rules, name_from)

pub slice_bounds-is_issuer-start : goal.slice_bounds-is_issuer-start
slice_bounds-is_issuer-start c = search (rules, name_from)

pub slice_bounds-is_issuer-end : goal.slice_bounds-is_issuer-end
slice_bounds-is_issuer-end c = search (rules, name_to)

pub returns-then-not-is_issuer : goal.returns-then-not-is_issuer
returns-then-not-is_issuer c = search (rules, name_no_issuer)

pub overflow_sub-start : goal.overflow_sub-start
overflow_sub-start c = search (rules, value_within)

pub overflow_add-result : goal.overflow_add-result
overflow_add-result c = search (rules, first_fits)

pub overflow_add-result-2 : goal.overflow_add-result-2
overflow_add-result-2 c = search (rules, end_fits)

pub overflow_add-result-3 : goal.overflow_add-result-3
overflow_add-result-3 c = search (rules, parameters_fit)

pub returns : goal.returns
returns c = search (rules, name_issuer)
