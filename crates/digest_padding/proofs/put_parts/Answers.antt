-- `put_parts` meets its contract: the last octets of the message, then the padding.
use borrow.Author.Rules.{rules}
use Rattle.digest_padding.proofs.PaddingWrites.{padding_from, padding_room, parts_put, parts_fit}
use Rattle.digest_padding.proofs.put_parts.Goals as goal

pub slice_bounds-put_padding-count : goal.slice_bounds-put_padding-count
slice_bounds-put_padding-count g c = search (rules, padding_from)

pub slice_bounds-put_padding-start : goal.slice_bounds-put_padding-start
slice_bounds-put_padding-start g c = search (rules, padding_from)

pub put_padding-requires : goal.put_padding-requires
put_padding-requires g c = search (rules, padding_room)

pub overflow_add-result : goal.overflow_add-result
overflow_add-result g c = search (rules, parts_fit)

pub returns : goal.returns
returns g c = search (rules, parts_put)
