-- `names_method` meets its contract. The loop's invariant: what is left of the items gives the same answer.
use Prim.Native.Nat.{◌-◌, ◌≤◌}
use Prim.Native.Char.{code}
use mathlib.Core.Path.{◌≡◌}
use lib.ListN.{length, drop}
use Rattle.spec_octets.specs.Pieces.{split}
use Rattle.read_methods.specs.Methods.{names_method_in}
use Rattle.read_methods.proofs.ItemWalk.{from_items}
use Rattle.read_methods.proofs.names_method.Given as goal

abbrev pub invariant-loop-item : goal.invariant-loop-item
invariant-loop-item l =
    (l.at ≤ length l.value) × (names_method_in l.method l.value ≡ from_items l.method l.found (split (code ",") (drop l.at l.value)))

abbrev pub decreases-loop-item : goal.decreases-loop-item
decreases-loop-item l = length l.value - l.at
