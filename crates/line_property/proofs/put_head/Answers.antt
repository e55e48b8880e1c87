-- `put_head` meets its contract.
use borrow.Author.Rules.{rules}
use Rattle.text_buffer.proofs.LentRest.{set_kept}
use Rattle.line_property.proofs.LineParts.{space_room, space_fits, tag_from, head_fits, head_put}
use Rattle.line_property.proofs.put_head.Goals as goal

pub bounds-out-w : goal.bounds-out-w
bounds-out-w c = search (rules, space_room)

pub overflow_add-next : goal.overflow_add-next
overflow_add-next c = search (rules, space_fits)

pub slice_bounds-put_lowered-count : goal.slice_bounds-put_lowered-count
slice_bounds-put_lowered-count c = search (rules, tag_from)

pub slice_bounds-put_lowered-start : goal.slice_bounds-put_lowered-start
slice_bounds-put_lowered-start c = search (rules, tag_from)

pub overflow_add-result : goal.overflow_add-result
overflow_add-result c = search (rules, head_fits)

pub shape_of-out : goal.shape_of-out
shape_of-out c = search (rules, set_kept)

pub returns : goal.returns
returns c = search (rules, head_put)
