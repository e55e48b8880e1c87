-- `check_request` meets its contract. The loop's invariant: with k names read, reading on from offset `at` gives the result.
use borrow.Author.Rules.{rules}
use Rattle.spec_limits.specs.Limits.{max_request_octets, max_names}
use Rattle.read_request.proofs.RequestPlaces.{left_less}
use Rattle.read_request.proofs.RequestWalk.{too_long, nothing, names_start, all_read, too_many, bad_name_lem, name_read}
use Rattle.read_request.proofs.check_request.Goals as goal

pub returns-then-s-gt-MAX_REQUEST_OCTETS : goal.returns-then-s-gt-MAX_REQUEST_OCTETS
unfolding max_request_octets
returns-then-s-gt-MAX_REQUEST_OCTETS c = search (rules, too_long)

pub returns-then-is_empty : goal.returns-then-is_empty
unfolding max_request_octets
returns-then-is_empty c = search (rules, nothing)

pub loop-at-init : goal.loop-at-init
loop-at-init c = search (rules, names_start)

pub returns-then-k-eq-MAX_NAMES : goal.returns-then-k-eq-MAX_NAMES
unfolding max_request_octets max_names
returns-then-k-eq-MAX_NAMES c = search (rules, too_many)

pub returns-in_err-n : goal.returns-in_err-n
unfolding max_request_octets max_names
returns-in_err-n c = search (rules, bad_name_lem)

pub overflow_add-k : goal.overflow_add-k
unfolding max_names
overflow_add-k c = search rules

pub loop-at-smaller : goal.loop-at-smaller
loop-at-smaller c = search (rules, left_less)

pub loop-at-preserved : goal.loop-at-preserved
unfolding max_request_octets max_names
loop-at-preserved c = search (rules, name_read)

pub returns : goal.returns
unfolding max_request_octets
returns c = search (rules, all_read)
