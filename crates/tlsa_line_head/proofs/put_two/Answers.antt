-- `put_two` meets its contract.
use borrow.Author.Rules.{rules}
use Rattle.tlsa_line_head.proofs.HeadParts.{first_room, second_from, second_room, two_fits, two_put}
use Rattle.tlsa_line_head.proofs.put_two.Goals as goal

pub put_number-w-requires : goal.put_number-w-requires
put_number-w-requires c = search (rules, first_room)

pub slice_bounds-put_number-count : goal.slice_bounds-put_number-count
slice_bounds-put_number-count c = search (rules, second_from)

pub slice_bounds-put_number-start : goal.slice_bounds-put_number-start
slice_bounds-put_number-start c = search (rules, second_from)

pub put_number-requires : goal.put_number-requires
put_number-requires c = search (rules, second_room)

pub overflow_add-result : goal.overflow_add-result
overflow_add-result c = search (rules, two_fits)

pub returns : goal.returns
returns c = search (rules, two_put)
