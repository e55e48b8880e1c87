-- `ask_once` meets its contract. The loop's invariant: the numbers that are left, behind those put at the front, give the same numbers.
use Rattle.list_sets.proofs.AskedOnce.{Asking}
use Rattle.list_sets.proofs.ask_once.Given as goal

abbrev pub invariant-loop-i : goal.invariant-loop-i
invariant-loop-i l = Asking l.initial.numbers l.numbers l.asked l.w l.i
