-- `limits_met` meets its contract. The loop's invariant: the parameters that are left give the same answer.
use Prim.Native.Nat.{◌-◌, ◌≤◌}
use Prim.Native.Char.{code}
use mathlib.Core.Path.{◌≡◌}
use mathlib.Core.List.{map}
use lib.ListN.{length, drop}
use Rattle.spec_applicant.specs.Applicants.{texts}
use Rattle.spec_octets.specs.Pieces.{split}
use Rattle.spec_value.specs.Parameters.{parameter_in}
use Rattle.spec_applicant.specs.Admission.{admits}
use Rattle.read_parameters.specs.Parameters.{parameters_behind}
use Rattle.read_limits.proofs.LimitWalk.{left}
use Rattle.read_limits.proofs.limits_met.Given as goal

abbrev pub invariant-loop-next : goal.invariant-loop-next
invariant-loop-next l =
    (l.at ≤ length l.s)
    × (admits (texts l.applicant) (parameters_behind l.s)
    ≡ left (texts l.applicant) l.seen (map parameter_in (split (code ";") (drop l.at l.s))))

abbrev pub decreases-loop-next : goal.decreases-loop-next
decreases-loop-next l = length l.s - l.at
