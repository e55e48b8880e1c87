-- `put_owner` meets its contract.
use borrow.Author.Rules.{rules}
use Rattle.tlsa_owner.proofs.OwnerParts.{prefix_short, prefix_room, host_from, owner_fits, owner_put}
use Rattle.tlsa_owner.proofs.put_owner.Goals as goal

pub put_prefix-w-requires : goal.put_prefix-w-requires
put_prefix-w-requires c = search (rules, prefix_short, prefix_room)

pub slice_bounds-put_octets-count : goal.slice_bounds-put_octets-count
slice_bounds-put_octets-count c = search (rules, host_from)

pub slice_bounds-put_octets-start : goal.slice_bounds-put_octets-start
slice_bounds-put_octets-start c = search (rules, host_from)

pub overflow_add-result : goal.overflow_add-result
overflow_add-result c = search (rules, owner_fits)

pub returns : goal.returns
returns c = search (rules, owner_put)
