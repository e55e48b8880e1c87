-- The table of verdicts with the labels taken off, by computing.
use mathlib.Core.Path.{refl}
use Rattle.spec_limits.specs.Limits.{max_aliases, max_label_octets, max_issuer_octets, max_name_octets}
use Rattle.spec_name.specs.Names.{name}
use Rattle.spec_octets.specs.Octets.{is_digit, is_upper, is_lower, is_letter_or_digit, is_blank, lower, equal_ignoring_case, is_parameter_octet}
use Rattle.spec_octets.specs.Label.{is_letter_digit_hyphen, is_label, is_host_label}
use Rattle.spec_request.specs.Request.{is_wildcard, base}
use Rattle.spec_issuer.specs.Issuer.{is_issuer}
use Rattle.spec_record.specs.Property.{read_property, property, is_critical, tag_of}
use Rattle.spec_record.specs.Records.{is_caa, is_alias, target}
use Rattle.spec_value.specs.IssueValues.{is_domain_name, is_parameter_tag, is_parameter, are_parameters, issue_value}
use Rattle.spec_value.specs.Parameters.{parameter_in, parameters_in}
use Rattle.spec_applicant.specs.Admission.{admits}
use Rattle.spec_rule.specs.RelevantSet.{lookup, relevant_set, labels_off}
use Rattle.spec_rule.specs.Authorizations.{is_unknown_critical, governing, grantee, authorization}
use Rattle.spec_rule.specs.Verdicts.{decision, verdict}
use Rattle.spec_rule.specs.UpEdges.{UpsAgree}

pub ups_agree : UpsAgree
unfolding max_label_octets max_issuer_octets max_aliases is_digit is_upper is_lower is_letter_or_digit is_blank lower equal_ignoring_case
    is_letter_digit_hyphen is_label is_host_label is_wildcard base is_issuer read_property property is_critical tag_of is_caa is_alias target name
    max_name_octets is_domain_name is_parameter_octet is_parameter_tag is_parameter are_parameters issue_value parameter_in parameters_in admits lookup relevant_set
    is_unknown_critical governing grantee authorization labels_off decision verdict
ups_agree = refl
