-- `are_labels` meets its contract. The loop's invariant: all labels are valid exactly when the remaining ones are.
use Prim.Native.Nat.{◌≤◌, ◌-◌}
use Prim.Native.Char.{code}
use mathlib.Core.Path.{◌≡◌}
use lib.ListN.{length, drop}
use Rattle.spec_octets.specs.Lists.{all}
use Rattle.spec_octets.specs.Pieces.{split}
use Rattle.text_labels.specs.DottedLabels.{is_label_within}
use Rattle.text_labels.proofs.are_labels.Given as goal

abbrev pub invariant-loop-longest : goal.invariant-loop-longest
invariant-loop-longest l =
    (l.at ≤ length l.s) × (all (is_label_within l.longest) (split (code ".") l.s) ≡ all (is_label_within l.longest) (split (code ".") (drop l.at l.s)))

abbrev pub decreases-loop-longest : goal.decreases-loop-longest
decreases-loop-longest l = length l.s - l.at
