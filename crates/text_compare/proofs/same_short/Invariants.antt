-- `same_short` meets its contract. The loop's invariant: the texts are the same exactly when the octets at `at` and all from `next` on are.
use Prim.Native.Nat.{◌-◌, ◌≤◌, ◌<◌}
use mathlib.Core.Path.{◌≡◌}
use mathlib.Core.Bool.{◌&&◌}
use lib.Dec.{eqb}
use lib.ListN.{length, get_or, drop}
use Rattle.spec_octets.specs.Octets.{lower, equal_ignoring_case}
use Rattle.text_compare.proofs.same_short.Given as goal

abbrev pub invariant-loop-n : goal.invariant-loop-n
invariant-loop-n l =
    (l.at < length l.a) × (l.next ≤ length l.a)
    × (equal_ignoring_case l.a l.b ≡ (eqb (lower (get_or l.a l.at 0)) (lower (get_or l.b l.at 0)) && equal_ignoring_case (drop l.next l.a) (drop l.next l.b)))

abbrev pub decreases-loop-n : goal.decreases-loop-n
decreases-loop-n l = length l.a - l.next
