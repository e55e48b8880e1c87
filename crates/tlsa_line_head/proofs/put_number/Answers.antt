-- `put_number` meets its contract.
use borrow.Author.Rules.{rules}
use Rattle.tlsa_line_head.proofs.HeadParts.{space_room, number_fits, number_put}
use Rattle.tlsa_line_head.proofs.put_number.Goals as goal

pub bounds-out-w : goal.bounds-out-w
bounds-out-w c = search (rules, space_room)

pub overflow_add-result : goal.overflow_add-result
overflow_add-result c = search (rules, number_fits)

pub returns : goal.returns
returns c = search (rules, number_put)
