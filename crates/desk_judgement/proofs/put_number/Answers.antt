-- `put_number` meets its contract.
use borrow.Author.Rules.{rules}
use Rattle.desk_judgement.proofs.Puts.{number_from, number_few, number_fits, number_put}
use Rattle.desk_judgement.proofs.put_number.Goals as goal

pub slice_bounds-put_decimal-count : goal.slice_bounds-put_decimal-count
slice_bounds-put_decimal-count c = search (rules, number_from)

pub slice_bounds-put_decimal-start : goal.slice_bounds-put_decimal-start
slice_bounds-put_decimal-start c = search (rules, number_from)

pub overflow_add-result : goal.overflow_add-result
overflow_add-result c = search (rules, number_fits)

pub returns : goal.returns
returns c = search (rules, number_put, number_few)
