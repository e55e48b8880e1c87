-- `find_key` meets its contract: a law of keyAt for each return.
use borrow.Author.Rules.{rules}
use Rattle.spec_der.specs.Certificate.{max_certificate_octets}
use Rattle.find_key.proofs.KeyWays.{too_long, no_whole, octets_behind, no_body, body_order, body_inside, not_two_behind, no_key, from_fits, to_fits, key_found}
use Rattle.find_key.proofs.find_key.Goals as goal

pub returns-then-s-gt-MAX_CERTIFICATE_OCTETS : goal.returns-then-s-gt-MAX_CERTIFICATE_OCTETS
unfolding max_certificate_octets
returns-then-s-gt-MAX_CERTIFICATE_OCTETS c = search (rules, too_long)

pub returns-in_err-whole : goal.returns-in_err-whole
unfolding max_certificate_octets
returns-in_err-whole c = search (rules, no_whole)

pub returns-then-whole-s : goal.returns-then-whole-s
unfolding max_certificate_octets
returns-then-whole-s c = search (rules, octets_behind)

pub returns-in_err-body : goal.returns-in_err-body
unfolding max_certificate_octets
returns-in_err-body c = search (rules, no_body)

pub returns-then-not-are_two_elements : goal.returns-then-not-are_two_elements
unfolding max_certificate_octets
returns-then-not-are_two_elements c = search (rules, not_two_behind)

pub slice_bounds-key_in_tbs-count : goal.slice_bounds-key_in_tbs-count
unfolding max_certificate_octets
slice_bounds-key_in_tbs-count c = search (rules, body_order)

pub slice_bounds-key_in_tbs-start : goal.slice_bounds-key_in_tbs-start
unfolding max_certificate_octets
slice_bounds-key_in_tbs-start c = search (rules, body_order)

pub slice_bounds-key_in_tbs-end : goal.slice_bounds-key_in_tbs-end
unfolding max_certificate_octets
slice_bounds-key_in_tbs-end c = search (rules, body_inside)

pub returns-in_err-key : goal.returns-in_err-key
unfolding max_certificate_octets
returns-in_err-key c = search (rules, no_key)

pub overflow_add-from : goal.overflow_add-from
unfolding max_certificate_octets
overflow_add-from c = search (rules, from_fits)

pub overflow_add-to : goal.overflow_add-to
unfolding max_certificate_octets
overflow_add-to c = search (rules, to_fits)

pub returns : goal.returns
unfolding max_certificate_octets
returns c = search (rules, key_found)
