-- `ask_sets` meets its contract. The loop's invariant: the questions that are left give the same answer in the end.
use borrow.Author.Rules.{rules}
use Rattle.list_kept.proofs.AskedLoop.{asked_parts, ask_start, names_length, rounds_length, ask_done}
use Rattle.list_kept.proofs.ask_sets.Goals as goal

pub loop-number-init : goal.loop-number-init
loop-number-init c = search (rules, ask_start)

pub shape_of-names : goal.shape_of-names
shape_of-names c = search (rules, names_length, rounds_length)

pub shape_of-rounds : goal.shape_of-rounds
shape_of-rounds c = search (rules, names_length, rounds_length)

pub returns : goal.returns
returns c = asked_parts _ _ _ _ _ _ _ (search (rules, ask_done))
