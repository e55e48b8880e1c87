-- `put_underscored` meets its contract.
use borrow.Author.Rules.{rules}
use Rattle.tlsa_owner.proofs.OwnerParts.{length_fits, underscore_room, text_from, label_fits, label_put, label_same}
use Rattle.tlsa_owner.proofs.put_underscored.Goals as goal

pub overflow_cast-out : goal.overflow_cast-out
overflow_cast-out c = search (rules, length_fits)

pub bounds-out-1 : goal.bounds-out-1
bounds-out-1 c = search (rules, underscore_room)

pub slice_bounds-put_octets-count : goal.slice_bounds-put_octets-count
slice_bounds-put_octets-count c = search (rules, text_from)

pub slice_bounds-put_octets-start : goal.slice_bounds-put_octets-start
slice_bounds-put_octets-start c = search (rules, text_from)

pub overflow_add-result : goal.overflow_add-result
overflow_add-result c = search (rules, label_fits)

pub shape_of-out : goal.shape_of-out
shape_of-out c = search (rules, label_same)

pub returns : goal.returns
returns c = search (rules, label_put)
