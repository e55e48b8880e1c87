-- `same_blocks` meets its contract. The loop's invariant: the texts are the same exactly when the remaining octets are.
use Prim.Native.Nat.{◌-◌}
use mathlib.Core.Path.{◌≡◌}
use lib.ListN.{drop}
use Rattle.spec_octets.specs.Octets.{equal_ignoring_case}
use Rattle.text_compare.proofs.same_blocks.Given as goal

abbrev pub invariant-loop-from : goal.invariant-loop-from
invariant-loop-from l = equal_ignoring_case l.a l.b ≡ equal_ignoring_case (drop l.from l.a) (drop l.from l.b)

abbrev pub decreases-loop-from : goal.decreases-loop-from
decreases-loop-from l = l.tail - l.from
