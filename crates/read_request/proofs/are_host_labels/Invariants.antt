-- `are_host_labels` meets its contract. The loop's invariant: the remaining labels give the result for the whole name.
use Prim.Native.Nat.{◌-◌}
use mathlib.Core.Path.{◌≡◌}
use lib.ListN.{length}
use Rattle.spec_name.specs.Names.{Name, wire, GoodName}
use Rattle.read_request.proofs.HostNames.{LabelsLeft}
use Rattle.read_request.proofs.are_host_labels.Given as goal

abbrev pub invariant-loop-at : goal.invariant-loop-at
invariant-loop-at l = (n : Name) → GoodName n → l.name ≡ wire n → LabelsLeft l.name n l.at

abbrev pub decreases-loop-at : goal.decreases-loop-at
decreases-loop-at l = length l.name - l.at
