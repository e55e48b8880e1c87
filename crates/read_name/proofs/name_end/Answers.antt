-- `name_end` meets its contract. The loop's invariant: reading on from offset p gives the result for the name at `at`.
use borrow.Author.Rules.{rules}
use Rattle.spec_limits.specs.Limits.{max_label_octets, max_name_octets}
use Rattle.read_name.proofs.Onward.{start, out, name_too_long, name_closed, label_too_long, label_passed}
use Rattle.read_name.proofs.name_end.Goals as goal

pub loop-p-init : goal.loop-p-init
loop-p-init c = search (rules, start)

pub returns-then-next-at-gt-MAX_NAME_OCTETS : goal.returns-then-next-at-gt-MAX_NAME_OCTETS
unfolding max_name_octets
returns-then-next-at-gt-MAX_NAME_OCTETS c = search (rules, name_too_long)

pub returns-then-n-eq0 : goal.returns-then-n-eq0
unfolding max_name_octets
returns-then-n-eq0 c = search (rules, name_closed)

pub returns-then-n-gt-MAX_LABEL_OCTETS : goal.returns-then-n-gt-MAX_LABEL_OCTETS
unfolding max_label_octets
returns-then-n-gt-MAX_LABEL_OCTETS c = search (rules, label_too_long)

pub loop-p-preserved : goal.loop-p-preserved
unfolding max_label_octets max_name_octets
loop-p-preserved c = search (rules, label_passed)

pub returns : goal.returns
returns c = search (rules, out)
