-- The limits of an issue value, one parameter after the other, as code walks them.
use Rattle.std.specs.Prelude.{true, not, cond, ◌&&◌, Option, Some, None}
use Rattle.spec_octets.specs.Octets.{text, same}
use Rattle.spec_value.specs.Parameters.{Parameter}
use Rattle.spec_applicant.specs.Applicant.{Applicant}
use Rattle.spec_applicant.specs.Admission.{is_tagged}
use Rattle.read_methods.specs.Methods.{names_method_in}
use Rattle.read_limits.specs.declared.Seen.{Seen}

-- A parameter after those that have set the limits seen so far.
abbrev pub limit_step : Applicant → Seen → Parameter → Option Seen
limit_step who seen p =
    cond (is_tagged (text "accounturi") p)
    (cond (not seen.account && same who.account p.value) (Some (record { account = true; methods = seen.methods })) None)
    (cond (is_tagged (text "validationmethods") p)
    (cond (not seen.methods && names_method_in who.method p.value) (Some (record { account = seen.account; methods = true })) None)
    (Some seen))
