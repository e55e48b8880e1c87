-- `text_classes::trim_end` meets its contract. The loop's invariant: trimming what is left gives the same as trimming s.
use mathlib.Core.Path.{◌≡◌}
use lib.ListN.{length}
use Rattle.spec_octets.specs.Octets.{trim_end}
use Rattle.text_classes.proofs.trim_end.Given as goal

abbrev pub invariant-loop-t : goal.invariant-loop-t
invariant-loop-t l = trim_end l.s ≡ trim_end l.t

abbrev pub decreases-loop-t : goal.decreases-loop-t
decreases-loop-t l = length l.t
