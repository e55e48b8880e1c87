-- `put_value` meets its contract. The loop's invariant: the octets before offset i are written, and the remaining ones fit.
use Prim.Native.Nat.{◌+◌, ◌≤◌}
use mathlib.Core.Path.{◌≡◌}
use lib.ListN.{drop, length, take}
use Rattle.spec_octets.specs.Buffer.{Put}
use Rattle.line_property.specs.Places.{escaped_value}
use Rattle.line_property.proofs.put_value.Given as goal

abbrev pub invariant-loop-b : goal.invariant-loop-b
invariant-loop-b l = (length l.out ≡ length l.initial.out) × (l.w + length (escaped_value (drop l.b-index l.v)) ≤ length l.out) × Put (escaped_value (take l.b-index l.v)) l.initial.out l.out l.w
