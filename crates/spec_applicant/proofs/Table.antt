-- The tables of account and method texts and of limits, by computing.
use mathlib.Core.Path.{refl}
use Rattle.spec_limits.specs.Limits.{max_account_octets}
use Rattle.spec_octets.specs.Octets.{is_upper, is_blank, is_parameter_octet, lower, equal_ignoring_case}
use Rattle.spec_value.specs.Parameters.{parameter_in, parameters_in}
use Rattle.spec_applicant.specs.Applicant.{is_account, is_method, is_applicant}
use Rattle.spec_applicant.specs.Admission.{admits}
use Rattle.spec_applicant.specs.Theorems.{ApplicantEdges, AdmissionEdges, LongTextEdges}

pub applicant_edges_lem : ApplicantEdges
unfolding max_account_octets is_parameter_octet is_account is_method is_applicant
applicant_edges_lem = refl

pub admission_edges_lem : AdmissionEdges
unfolding is_upper is_blank lower equal_ignoring_case parameter_in parameters_in admits
admission_edges_lem = refl

pub long_text_edges : LongTextEdges
unfolding is_upper is_blank lower equal_ignoring_case parameter_in parameters_in admits
long_text_edges = refl
