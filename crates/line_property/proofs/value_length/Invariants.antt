-- `value_length` meets its contract. The loop's invariant: the count so far and the length of the remaining octets are the whole length.
use Prim.Native.Nat.{◌+◌}
use mathlib.Core.Path.{◌≡◌}
use lib.ListN.{length, drop}
use Rattle.line_property.specs.Places.{escaped_value}
use Rattle.line_property.proofs.value_length.Given as goal

abbrev pub invariant-loop-b : goal.invariant-loop-b
invariant-loop-b l = l.n + length (escaped_value (drop l.b-index l.v)) ≡ length (escaped_value l.v)
