-- The tables of values and of their parameters, by computing.
use mathlib.Core.Path.{refl}
use Rattle.spec_octets.specs.Octets.{is_digit, is_upper, is_lower, is_letter_or_digit, is_blank, is_parameter_octet}
use Rattle.spec_octets.specs.Label.{is_letter_digit_hyphen, is_label}
use Rattle.spec_value.specs.IssueValues.{is_domain_name, is_parameter_tag, is_parameter, are_parameters, issue_value}
use Rattle.spec_value.specs.Parameters.{parameter_in, parameters_in}
use Rattle.spec_value.specs.Theorems.{ValueEdges, ParameterEdges}

pub value_edges_lem : ValueEdges
unfolding is_digit is_upper is_lower is_letter_or_digit is_blank is_letter_digit_hyphen is_label is_domain_name is_parameter_octet is_parameter_tag is_parameter
    are_parameters issue_value
value_edges_lem = refl

pub parameter_edges_lem : ParameterEdges
unfolding is_blank parameter_in parameters_in
parameter_edges_lem = refl
