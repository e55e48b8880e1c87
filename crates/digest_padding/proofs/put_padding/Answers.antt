-- `put_padding` meets its contract: the octet 128 and the zeros, then the length.
use Rattle.std.proofs.Common.{rules, ℕ, ◌*◌, ap}
use Rattle.digest_padding.proofs.PaddingWrites.{marker_fits, length_from, length_room, padding_fits, padding_put}
use Rattle.digest_padding.proofs.put_padding.Goals as goal

pub put_marker-w-requires : goal.put_marker-w-requires
put_marker-w-requires g c = search (rules, marker_fits)

pub slice_bounds-put_length-count : goal.slice_bounds-put_length-count
slice_bounds-put_length-count g c = search (rules, length_from)

pub slice_bounds-put_length-start : goal.slice_bounds-put_length-start
slice_bounds-put_length-start g c = search (rules, length_from)

pub put_length-requires : goal.put_length-requires
put_length-requires g c = search (rules, length_room)

pub overflow_add-result : goal.overflow_add-result
overflow_add-result g c = search (rules, padding_fits)

pub returns : goal.returns
returns g c =
    padding_put _ _ _ c.requires.zeros.0 _ c.requires.room _ _ c.put_marker-w.ensures _ _ (ap (λ (o : ℕ). 2 * o) c.OCTETS-k.ensures) c.put_length.ensures
