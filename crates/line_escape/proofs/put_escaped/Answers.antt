-- `put_escaped` meets its contract: a law for each of the three forms of an octet.
use lib.ListN.{length-set}
use borrow.Author.Rules.{rules}
use Rattle.text_buffer.proofs.LentRest.{set_kept}
use Rattle.line_escape.proofs.EscapedOctets.{no_octets_answer, no_octets_put, room_for_one, room_for_two, one_answer, one_octets, two_answer, two_octets, four_fits, four_answer, four_octets}
use Rattle.line_escape.proofs.put_escaped.Goals as goal

pub returns-then-out-n : goal.returns-then-out-n
returns-then-out-n c = search (rules, no_octets_answer, no_octets_put)

pub bounds-out-0 : goal.bounds-out-0
bounds-out-0 c = search (rules, room_for_one)

pub returns-then-n-eq1 : goal.returns-then-n-eq1
returns-then-n-eq1 c = search (rules, one_answer, one_octets)

pub bounds-out-0-2 : goal.bounds-out-0-2
bounds-out-0-2 c = search (rules, room_for_one)

pub bounds-out-1 : goal.bounds-out-1
bounds-out-1 c = search (rules, room_for_two)

pub returns-then-n-eq2 : goal.returns-then-n-eq2
returns-then-n-eq2 c = search (rules, two_answer, two_octets)

pub slice_bounds-put_three_digits-count : goal.slice_bounds-put_three_digits-count
slice_bounds-put_three_digits-count c = search (rules, room_for_one)

pub slice_bounds-put_three_digits-start : goal.slice_bounds-put_three_digits-start
slice_bounds-put_three_digits-start c = simp length-set (search (rules, room_for_one))

pub overflow_add-result : goal.overflow_add-result
overflow_add-result c = search (rules, four_fits)

pub shape_of-out : goal.shape_of-out
shape_of-out c = search (rules, set_kept)

pub returns : goal.returns
returns c = search (rules, four_answer, four_octets)
