-- `put_number` meets its contract. The loop's invariant: the octets from i on are written, and `left` is the number of those before.
use borrow.Author.Rules.{rules}
use Rattle.text_buffer.proofs.LentRest.{set_length}
use Rattle.digest_octets.proofs.NumberWrites.{no_number_answer, no_number_octets, number_turn, number_answer, number_octets}
use Rattle.digest_octets.proofs.put_number.Goals as goal

pub returns-then-out-k : goal.returns-then-out-k
returns-then-out-k c = search (rules, no_number_answer, no_number_octets)

pub loop-i-preserved : goal.loop-i-preserved
loop-i-preserved c = search (rules, set_length, number_turn)

pub returns : goal.returns
returns c = search (rules, number_answer, number_octets)
