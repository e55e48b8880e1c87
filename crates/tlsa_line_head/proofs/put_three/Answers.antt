-- `put_three` meets its contract.
use borrow.Author.Rules.{rules}
use Rattle.tlsa_line_head.proofs.HeadParts.{two_room, third_from, third_room, three_fits, three_put}
use Rattle.tlsa_line_head.proofs.put_three.Goals as goal

pub put_two-w-requires : goal.put_two-w-requires
put_two-w-requires c = search (rules, two_room)

pub slice_bounds-put_number-count : goal.slice_bounds-put_number-count
slice_bounds-put_number-count c = search (rules, third_from)

pub slice_bounds-put_number-start : goal.slice_bounds-put_number-start
slice_bounds-put_number-start c = search (rules, third_from)

pub put_number-requires : goal.put_number-requires
put_number-requires c = search (rules, third_room)

pub overflow_add-result : goal.overflow_add-result
overflow_add-result c = search (rules, three_fits)

pub returns : goal.returns
returns c = search (rules, three_put)
