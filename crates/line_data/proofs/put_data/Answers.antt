-- `put_data` meets its contract.
use borrow.Author.Rules.{rules}
use Rattle.line_data.proofs.DataParts.{head_room, value_from_lem, value_room, data_fits, data_put}
use Rattle.line_data.proofs.put_data.Goals as goal

pub put_tag-w-requires : goal.put_tag-w-requires
put_tag-w-requires c = search (rules, head_room)

pub slice_bounds-put_unescaped-count : goal.slice_bounds-put_unescaped-count
slice_bounds-put_unescaped-count c = search (rules, value_from_lem)

pub slice_bounds-put_unescaped-start : goal.slice_bounds-put_unescaped-start
slice_bounds-put_unescaped-start c = search (rules, value_from_lem)

pub put_unescaped-requires : goal.put_unescaped-requires
put_unescaped-requires c = search (rules, value_room)

pub overflow_add-result : goal.overflow_add-result
overflow_add-result c = search (rules, data_fits)

pub returns : goal.returns
returns c = search (rules, data_put)
