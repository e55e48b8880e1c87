-- The tables of data, of services and of matches, by computing.
use mathlib.Core.Path.{refl}
use Rattle.spec_limits.specs.Limits.{max_label_octets, max_name_octets, max_book_octets, max_records}
use Rattle.spec_octets.specs.Octets.{is_digit, is_upper, is_lower, is_letter_or_digit, lower, equal_ignoring_case}
use Rattle.spec_octets.specs.Label.{is_letter_digit_hyphen, is_label, is_host_label}
use Rattle.spec_octets.specs.Reader.{number}
use Rattle.spec_name.specs.Names.{name}
use Rattle.spec_request.specs.Request.{is_wildcard, base, is_requestable, requested_name}
use Rattle.spec_record.specs.Property.{read_property, property}
use Rattle.spec_record.specs.Records.{is_caa, is_alias, target, is_laid_out, resource_record, record_items, records, layout_refusal, clashes, conflict_refusal, book_refusal}
use Rattle.spec_line.specs.Calls.{placed}
use Rattle.spec_tlsa.specs.Association.{is_tlsa, read_association, association, is_usage, is_selector, is_matching_type}
use Rattle.spec_tlsa.specs.Owners.{max_port, is_port, is_transport, host_name, service_owner}
use Rattle.spec_tlsa.specs.Matches.{is_usable, is_match, matching}
use Rattle.spec_tlsa.specs.Calls.{write_owner, owner_refusal, match_service}
use Rattle.spec_tlsa.specs.Theorems.{AssociationEdges, OwnerEdges, OwnerExamples, MatchEdges}

pub association_edges_lem : AssociationEdges
unfolding read_association association
association_edges_lem = refl

pub owner_edges_lem : OwnerEdges
unfolding max_label_octets max_name_octets is_digit is_upper is_lower is_letter_or_digit is_letter_digit_hyphen is_label is_host_label name is_wildcard base
    is_requestable requested_name max_port is_port is_transport host_name service_owner
owner_edges_lem = refl

pub owner_examples : OwnerExamples
unfolding max_label_octets max_name_octets is_digit is_upper is_lower is_letter_or_digit is_letter_digit_hyphen is_label is_host_label name is_wildcard base
    is_requestable requested_name max_port is_port is_transport host_name service_owner placed write_owner
owner_examples = (refl, refl, refl, refl)

pub match_edges_lem : MatchEdges
unfolding max_label_octets max_name_octets max_book_octets max_records is_digit is_upper is_lower is_letter_or_digit lower equal_ignoring_case is_letter_digit_hyphen
    is_label is_host_label number name is_wildcard base is_requestable requested_name read_property property is_caa is_alias target is_laid_out resource_record
    record_items records layout_refusal clashes conflict_refusal book_refusal is_tlsa read_association association is_usage is_selector is_matching_type max_port
    is_port is_transport host_name service_owner is_usable is_match matching owner_refusal match_service
match_edges_lem = refl
