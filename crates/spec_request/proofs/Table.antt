-- The table of requests, by computing.
use mathlib.Core.Path.{refl}
use Rattle.spec_limits.specs.Limits.{max_label_octets, max_name_octets, max_request_octets, max_names}
use Rattle.spec_octets.specs.Octets.{is_digit, is_upper, is_lower, is_letter_or_digit}
use Rattle.spec_octets.specs.Label.{is_letter_digit_hyphen, is_label, is_host_label}
use Rattle.spec_name.specs.Names.{name}
use Rattle.spec_request.specs.Request.{base, is_requestable, requested_name, name_items, request_refusal}
use Rattle.spec_request.specs.Theorems.{RequestEdges}

pub request_edges_lem : RequestEdges
unfolding max_label_octets max_name_octets max_request_octets max_names is_digit is_upper is_lower is_letter_or_digit is_letter_digit_hyphen is_label is_host_label
    name base is_requestable requested_name name_items request_refusal
request_edges_lem = refl
