-- `count_unescaped` meets its contract. The loop's invariant: the count so far and the remaining written octets give the result.
use Prim.Native.Nat.{◌-◌}
use lib.ListN.{length}
use Rattle.line_data.proofs.UnitLoops.{Counted}
use Rattle.line_data.proofs.count_unescaped.Given as goal

abbrev pub invariant-loop-at : goal.invariant-loop-at
invariant-loop-at l = Counted l.style l.s l.at l.n

abbrev pub decreases-loop-at : goal.decreases-loop-at
decreases-loop-at l = length l.s - l.at
