-- The examples of the exported readers, by computing.
use mathlib.Core.Path.{refl}
use Rattle.spec_limits.specs.Limits.{max_label_octets, max_name_octets}
use Rattle.spec_octets.specs.Octets.{is_digit, is_upper, is_lower, is_letter_or_digit, is_blank, lower, equal_ignoring_case, is_parameter_octet}
use Rattle.spec_octets.specs.Label.{is_letter_digit_hyphen, is_label, is_host_label}
use Rattle.spec_octets.specs.Reader.{number}
use Rattle.spec_name.specs.Names.{name}
use Rattle.spec_request.specs.Request.{is_wildcard, base, is_requestable, requested_name}
use Rattle.spec_record.specs.Property.{read_property, property, tag_of}
use Rattle.spec_record.specs.Records.{is_caa, is_alias, target, is_laid_out, resource_record}
use Rattle.spec_value.specs.IssueValues.{is_domain_name, is_parameter_tag, is_parameter, are_parameters, issue_value}
use Rattle.spec_packed.specs.Packed.{packed}
use Rattle.read_name.specs.Places.{name_end}
use Rattle.read_request.specs.Places.{requested_at}
use Rattle.read_property.specs.Places.{property_at}
use Rattle.read_record.specs.Places.{record_at}
use Rattle.read_value.specs.Places.{value_at}
use Rattle.test_readers.specs.Answers.{reader_answer}
use Rattle.test_readers.specs.Theorems.{ReaderExamples}

pub reader_examples : ReaderExamples
unfolding max_label_octets max_name_octets is_digit is_upper is_lower is_letter_or_digit is_blank lower equal_ignoring_case is_parameter_octet is_letter_digit_hyphen
    is_label is_host_label number name is_wildcard base is_requestable requested_name read_property property tag_of is_caa is_alias target is_laid_out resource_record
    is_domain_name is_parameter_tag is_parameter are_parameters issue_value packed name_end requested_at property_at record_at value_at reader_answer
reader_examples =
    (refl, refl, refl, refl, refl, refl, refl, refl, refl, refl, refl, refl, refl, refl, refl, refl, refl, refl, refl, refl, refl)
