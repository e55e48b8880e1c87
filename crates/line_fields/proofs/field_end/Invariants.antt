-- `field_end` meets its contract. The loop's invariant: the field ends where the rest of it, from offset e on, ends.
use Prim.Native.Nat.{◌-◌}
use mathlib.Core.Path.{◌≡◌}
use lib.ListN.{length}
use Rattle.line_fields.specs.Places.{field_end}
use Rattle.line_fields.proofs.field_end.Given as goal

abbrev pub invariant-loop-e : goal.invariant-loop-e
invariant-loop-e l = field_end l.s l.at ≡ field_end l.s l.e

abbrev pub decreases-loop-e : goal.decreases-loop-e
decreases-loop-e l = length l.s - l.e
