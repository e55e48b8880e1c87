-- `put_octets` meets its contract. The loop's invariant: the octets before offset i are written.
use borrow.Author.Rules.{rules}
use Rattle.text_buffer.proofs.LentRest.{put_nothing, set_length}
use Rattle.text_buffer.proofs.PutLoops.{octets_turn, octets_answer, octets_there}
use Rattle.text_buffer.proofs.put_octets.Goals as goal

pub loop-i-init : goal.loop-i-init
loop-i-init c = search (rules, put_nothing)

pub loop-i-preserved : goal.loop-i-preserved
loop-i-preserved c = search (rules, set_length, octets_turn)

pub returns : goal.returns
returns c = search (rules, octets_answer, octets_there)
