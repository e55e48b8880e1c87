-- The table of edits and the numbers of the answers, by computing.
use mathlib.Core.Path.{refl}
use Rattle.spec_limits.specs.Limits.{max_aliases, max_label_octets, max_name_octets, max_request_octets, max_names, max_book_octets, max_records}
use Rattle.spec_octets.specs.Reader.{number}
use Rattle.spec_octets.specs.Octets.{is_digit, is_upper, is_lower, is_letter_or_digit, lower, equal_ignoring_case}
use Rattle.spec_octets.specs.Label.{is_letter_digit_hyphen, is_label, is_host_label}
use Rattle.spec_name.specs.Names.{name}
use Rattle.spec_request.specs.Request.{is_wildcard, base, is_requestable, requested_name, name_items, requested_names, request_refusal}
use Rattle.spec_record.specs.Property.{read_property, property}
use Rattle.spec_record.specs.Records.{is_caa, is_alias, target, is_laid_out, resource_record, record_items, records, layout_refusal, clashes, conflict_refusal, book_refusal}
use Rattle.spec_edit.specs.Edits.{touches_from, touches, may_leave, owner_name, edited, edited_code}
use Rattle.spec_edit.specs.EditEdges.{EditsAgree}
use Rattle.spec_edit.specs.Pinned.{EditedCodes}

pub edits_agree : EditsAgree
unfolding max_label_octets max_aliases max_name_octets max_request_octets max_names max_book_octets max_records is_digit is_upper is_lower is_letter_or_digit lower
    equal_ignoring_case is_letter_digit_hyphen is_label is_host_label is_wildcard base is_requestable requested_name name_items requested_names request_refusal
    read_property property is_caa is_alias target is_laid_out resource_record record_items records layout_refusal clashes conflict_refusal book_refusal number name
    touches_from touches may_leave owner_name edited
edits_agree = refl

pub edited_codes : EditedCodes
unfolding edited_code
edited_codes = (refl, refl, λ r. refl, refl)
