-- `mark` meets its contract. The loop's invariant: the rounds that are left to move give the same rounds in the end.
use Rattle.list_rounds.proofs.MarkLoop.{Moved}
use Rattle.list_rounds.proofs.mark.Given as goal

abbrev pub invariant-loop-i : goal.invariant-loop-i
invariant-loop-i l = Moved l.book l.names l.count l.x l.t l.initial.rounds l.rounds l.i
