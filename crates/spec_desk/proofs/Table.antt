-- The desk program's lines from the contents of its files, by computing.
use mathlib.Core.Path.{refl}
use Rattle.spec_limits.specs.Limits.{max_account_octets, max_aliases, max_label_octets, max_issuer_octets, max_name_octets, max_request_octets, max_names, max_book_octets, max_records}
use Rattle.spec_octets.specs.Reader.{number}
use Rattle.spec_name.specs.Names.{name}
use Rattle.spec_octets.specs.Octets.{is_digit, is_upper, is_lower, is_letter_or_digit, is_blank, lower, equal_ignoring_case, is_parameter_octet}
use Rattle.spec_octets.specs.Label.{is_letter_digit_hyphen, is_label, is_host_label}
use Rattle.spec_request.specs.Request.{is_wildcard, base, is_requestable, requested_name, name_items, requested_names, request_refusal}
use Rattle.spec_issuer.specs.Issuer.{is_issuer, issuer_refusal}
use Rattle.spec_record.specs.Property.{read_property, property, is_critical, tag_of}
use Rattle.spec_record.specs.Records.{is_caa, is_alias, target, is_laid_out, resource_record, record_items, records, layout_refusal, clashes, conflict_refusal, book_refusal}
use Rattle.spec_value.specs.IssueValues.{is_domain_name, is_parameter_tag, is_parameter, are_parameters, issue_value}
use Rattle.spec_octets.specs.WrittenDecimal.{decimal}
use Rattle.spec_refusal.specs.Refusal.{number as refusalNumber, place}
use Rattle.spec_value.specs.Parameters.{parameter_in, parameters_in}
use Rattle.spec_applicant.specs.Applicant.{is_account, is_method, is_applicant, applicant_refusal}
use Rattle.spec_applicant.specs.Admission.{admits}
use Rattle.spec_rule.specs.RelevantSet.{lookup, relevant_set, labels_off}
use Rattle.spec_rule.specs.Authorizations.{is_unknown_critical, governing, grantee, authorization}
use Rattle.spec_rule.specs.Verdicts.{decision, verdict}
use Rattle.spec_rule.specs.Calls.{decisions, judge}
use Rattle.spec_desk.specs.Lines.{answer_text, desk_line}
use Rattle.spec_desk.specs.Theorems.{DeskLines}

pub desk_lines : DeskLines
unfolding max_label_octets max_issuer_octets max_name_octets max_request_octets max_names max_book_octets max_records is_digit is_upper is_lower
    is_letter_or_digit is_blank lower equal_ignoring_case is_letter_digit_hyphen is_label is_host_label is_wildcard base is_issuer read_property property
    is_critical tag_of is_caa is_alias target max_aliases is_domain_name is_parameter_octet is_parameter_tag is_parameter are_parameters issue_value parameter_in parameters_in admits lookup relevant_set
    is_unknown_critical governing grantee authorization labels_off decision verdict name is_requestable requested_name name_items requested_names request_refusal
    issuer_refusal max_account_octets is_account is_method is_applicant applicant_refusal is_laid_out resource_record record_items records layout_refusal clashes conflict_refusal book_refusal number decisions judge
    decimal refusalNumber place answer_text desk_line
desk_lines = (refl, refl, refl, refl, refl, refl, refl, refl, refl, refl, refl, refl)
