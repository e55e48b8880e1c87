-- `check_request` meets its contract. The loop's invariant: with k names read, reading on from offset `at` gives the result.
use Prim.Native.Nat.{◌-◌}
use lib.ListN.{length}
use Rattle.read_request.proofs.RequestWalk.{NamesRead}
use Rattle.read_request.proofs.check_request.Given as goal

abbrev pub invariant-loop-at : goal.invariant-loop-at
invariant-loop-at l = NamesRead l.s l.at l.k

abbrev pub decreases-loop-at : goal.decreases-loop-at
decreases-loop-at l = length l.s - l.at
