-- `name_end` meets its contract. The loop's invariant: reading on from offset p gives the result for the name at `at`.
use Prim.Native.Nat.{◌-◌}
use lib.ListN.{length}
use Rattle.read_name.proofs.Onward.{Onward}
use Rattle.read_name.proofs.name_end.Given as goal

abbrev pub invariant-loop-p : goal.invariant-loop-p
invariant-loop-p l = Onward l.s l.at l.p

abbrev pub decreases-loop-p : goal.decreases-loop-p
decreases-loop-p l = length l.s - l.p
