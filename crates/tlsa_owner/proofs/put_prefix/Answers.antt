-- `put_prefix` meets its contract.
use borrow.Author.Rules.{rules}
use Rattle.tlsa_owner.proofs.OwnerParts.{port_short, transport_short, port_room, transport_from, transport_room, prefix_fits, prefix_put}
use Rattle.tlsa_owner.proofs.put_prefix.Goals as goal

pub put_underscored-w-requires : goal.put_underscored-w-requires
put_underscored-w-requires c = search (rules, port_short, port_room)

pub slice_bounds-put_underscored-count : goal.slice_bounds-put_underscored-count
slice_bounds-put_underscored-count c = search (rules, transport_from)

pub slice_bounds-put_underscored-start : goal.slice_bounds-put_underscored-start
slice_bounds-put_underscored-start c = search (rules, transport_from)

pub put_underscored-requires : goal.put_underscored-requires
put_underscored-requires c = search (rules, transport_short, transport_room)

pub overflow_add-result : goal.overflow_add-result
overflow_add-result c = search (rules, prefix_fits)

pub returns : goal.returns
returns c = search (rules, prefix_put)
