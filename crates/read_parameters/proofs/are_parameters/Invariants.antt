-- `are_parameters` meets its contract. The loop's invariant: all pieces are parameters exactly when the remaining ones are.
use Prim.Native.Nat.{◌≤◌, ◌-◌}
use Prim.Native.Char.{code}
use mathlib.Core.Path.{◌≡◌}
use lib.ListN.{length, drop}
use Rattle.spec_octets.specs.Lists.{all}
use Rattle.spec_octets.specs.Pieces.{split}
use Rattle.spec_value.specs.IssueValues.{is_parameter}
use Rattle.read_parameters.proofs.are_parameters.Given as goal

abbrev pub invariant-loop-at : goal.invariant-loop-at
invariant-loop-at l = (l.at ≤ length l.s) × (all is_parameter (split (code ";") l.s) ≡ all is_parameter (split (code ";") (drop l.at l.s)))

abbrev pub decreases-loop-at : goal.decreases-loop-at
decreases-loop-at l = length l.s - l.at
