-- `check_one_name` meets its contract.
use borrow.Author.Rules.{rules}
use Rattle.spec_limits.specs.Limits.{max_request_octets}
use Rattle.session_open.proofs.OpenLaws.{too_long, no_name, more_octets, one_name}
use Rattle.session_open.proofs.check_one_name.Goals as goal

pub returns-then-s-gt-MAX_REQUEST_OCTETS : goal.returns-then-s-gt-MAX_REQUEST_OCTETS
unfolding max_request_octets
returns-then-s-gt-MAX_REQUEST_OCTETS c = search (rules, too_long)

pub returns-in_err-n : goal.returns-in_err-n
unfolding max_request_octets
returns-in_err-n c = search (rules, no_name)

pub returns-then-n-s : goal.returns-then-n-s
unfolding max_request_octets
returns-then-n-s c = search (rules, more_octets)

pub returns : goal.returns
unfolding max_request_octets
returns c = search (rules, one_name)
