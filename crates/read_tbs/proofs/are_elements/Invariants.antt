-- `are_elements` meets its contract. The loop's invariant: the octets from p on are elements exactly when those from `at` on are.
use Prim.Native.Nat.{◌-◌}
use mathlib.Core.Path.{◌≡◌}
use lib.ListN.{length, drop}
use Rattle.read_tbs.specs.Places.{are_elements}
use Rattle.read_tbs.proofs.are_elements.Given as goal

abbrev pub invariant-loop-p : goal.invariant-loop-p
invariant-loop-p l = are_elements (drop l.at l.s) ≡ are_elements (drop l.p l.s)

abbrev pub decreases-loop-p : goal.decreases-loop-p
decreases-loop-p l = length l.s - l.p
