-- `put_unescaped` meets its contract. The loop's invariant: the octets written, and those of the remaining written octets, are the value.
use Prim.Native.Nat.{◌-◌}
use lib.ListN.{length}
use Rattle.line_data.proofs.UnitLoops.{Filled}
use Rattle.line_data.proofs.put_unescaped.Given as goal

abbrev pub invariant-loop-at : goal.invariant-loop-at
invariant-loop-at l = Filled l.style l.s l.initial.out l.out l.at l.w

abbrev pub decreases-loop-at : goal.decreases-loop-at
decreases-loop-at l = length l.s - l.at
