-- `put_value` meets its contract. The loop's invariant: the octets before offset i are written, and the remaining ones fit.
use borrow.Author.Rules.{rules}
use Rattle.text_buffer.proofs.LentRest.{put_nothing}
use Rattle.line_property.proofs.ValueLoops.{sum_fits, room_turn, value_turn, value_end}
use Rattle.line_property.proofs.put_value.Goals as goal

pub loop-b-init : goal.loop-b-init
loop-b-init c = search (rules, put_nothing)

pub overflow_add-w : goal.overflow_add-w
overflow_add-w c = search (rules, sum_fits)

pub loop-b-preserved : goal.loop-b-preserved
loop-b-preserved c = search (rules, room_turn, value_turn)

pub returns : goal.returns
returns c = search (rules, value_end)
