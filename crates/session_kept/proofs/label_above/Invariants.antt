-- `label_above` meets its contract. The loop's invariant: the labels from the offset on give the answer.
use Prim.Native.Nat.{◌-◌}
use mathlib.Core.Path.{◌≡◌}
use lib.ListN.{length, drop}
use Rattle.spec_name.specs.Names.{Name, wire, GoodName}
use Rattle.session_kept.proofs.LabelsAbove.{LabelsLeft}
use Rattle.session_kept.proofs.label_above.Given as goal

abbrev pub invariant-loop-at : goal.invariant-loop-at
invariant-loop-at l = (x : Name) → GoodName x → drop l.base l.name ≡ wire x → LabelsLeft l.name x l.up l.at l.left

abbrev pub decreases-loop-at : goal.decreases-loop-at
decreases-loop-at l = length l.name - l.at
