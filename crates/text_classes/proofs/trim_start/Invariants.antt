-- `text_classes::trim_start` meets its contract. The loop's invariant: trimming what is left gives the same as trimming s.
use mathlib.Core.Path.{◌≡◌}
use lib.ListN.{length}
use Rattle.spec_octets.specs.Octets.{trim_start}
use Rattle.text_classes.proofs.trim_start.Given as goal

abbrev pub invariant-loop-t : goal.invariant-loop-t
invariant-loop-t l = trim_start l.s ≡ trim_start l.t

abbrev pub decreases-loop-t : goal.decreases-loop-t
decreases-loop-t l = length l.t
