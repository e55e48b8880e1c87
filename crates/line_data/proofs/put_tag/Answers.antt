-- `put_tag` meets its contract.
use borrow.Author.Rules.{rules}
use Rattle.line_data.proofs.DataParts.{length_fits, length_room, tag_from, head_fits, head_same, head_put}
use Rattle.line_data.proofs.put_tag.Goals as goal

pub overflow_cast-out : goal.overflow_cast-out
overflow_cast-out c = search (rules, length_fits)

pub bounds-out-1 : goal.bounds-out-1
bounds-out-1 c = search (rules, length_room)

pub slice_bounds-put_octets-count : goal.slice_bounds-put_octets-count
slice_bounds-put_octets-count c = search (rules, tag_from)

pub slice_bounds-put_octets-start : goal.slice_bounds-put_octets-start
slice_bounds-put_octets-start c = search (rules, tag_from)

pub overflow_add-result : goal.overflow_add-result
overflow_add-result c = search (rules, head_fits)

pub shape_of-out : goal.shape_of-out
shape_of-out c = search (rules, head_same)

pub returns : goal.returns
returns c = search (rules, head_put)
