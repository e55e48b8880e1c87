-- `put_quoted` meets its contract.
use borrow.Author.Rules.{rules}
use Rattle.line_property.proofs.LineParts.{quote_room, value_from_lem, value_room, value_fits, last_room, quoted_fits, quoted_same, quoted_put}
use Rattle.line_property.proofs.put_quoted.Goals as goal

pub bounds-out-1 : goal.bounds-out-1
bounds-out-1 c = search (rules, quote_room)

pub slice_bounds-put_value-count : goal.slice_bounds-put_value-count
slice_bounds-put_value-count c = search (rules, value_from_lem)

pub slice_bounds-put_value-start : goal.slice_bounds-put_value-start
slice_bounds-put_value-start c = search (rules, value_from_lem)

pub put_value-w-requires : goal.put_value-w-requires
put_value-w-requires c = search (rules, value_room)

pub overflow_add-w : goal.overflow_add-w
overflow_add-w c = search (rules, value_fits)

pub bounds-out-w : goal.bounds-out-w
bounds-out-w c =
    last_room c.args.v.now c.args.out.now c.requires _ _ c.put_value-w.ensures

pub overflow_add-result : goal.overflow_add-result
overflow_add-result c = search (rules, quoted_fits)

pub shape_of-out : goal.shape_of-out
shape_of-out c = search (rules, quoted_same)

pub returns : goal.returns
returns c = search (rules, quoted_put)
