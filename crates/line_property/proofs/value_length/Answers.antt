-- `value_length` meets its contract. The loop's invariant: the count so far and the length of the remaining octets are the whole length.
use borrow.Author.Rules.{rules}
use Rattle.line_property.proofs.Measures.{measure_end, measure_turn, measure_fits}
use Rattle.line_property.proofs.value_length.Goals as goal

pub overflow_add-n : goal.overflow_add-n
overflow_add-n c = search (rules, measure_fits)

pub loop-b-preserved : goal.loop-b-preserved
loop-b-preserved c = search (rules, measure_turn)

pub returns : goal.returns
returns c = search (rules, measure_end)
