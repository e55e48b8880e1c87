-- `line_length` meets its contract.
use borrow.Author.Rules.{rules}
use Rattle.line_property.proofs.Measures.{tag_fits, value_fits, line_fits, line_measured}
use Rattle.line_property.proofs.line_length.Goals as goal

pub overflow_add-result : goal.overflow_add-result
overflow_add-result c = search (rules, tag_fits)

pub overflow_add-result-2 : goal.overflow_add-result-2
overflow_add-result-2 c = search (rules, value_fits)

pub overflow_add-result-3 : goal.overflow_add-result-3
overflow_add-result-3 c = search (rules, line_fits)

pub returns : goal.returns
returns c = search (rules, line_measured)
