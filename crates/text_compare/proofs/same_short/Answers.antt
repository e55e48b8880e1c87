-- `same_short` meets its contract. The loop's invariant: the texts are the same exactly when the octets at `at` and all from `next` on are.
use borrow.Author.Rules.{rules}
use borrow.Author.Tests.{not-true, not-false}
use Rattle.text_compare.proofs.TextWalk.{empty_same, octet_and_all, short_stop, short_end, short_turn}
use Rattle.text_compare.proofs.same_short.Goals as goal

pub returns-then-n-eq0 : goal.returns-then-n-eq0
returns-then-n-eq0 c = search (rules, empty_same)

pub loop-n-init : goal.loop-n-init
loop-n-init c = search (rules, octet_and_all)

pub returns-then-not-same_octet : goal.returns-then-not-same_octet
returns-then-not-same_octet c = search (rules, short_stop, not-true)

pub returns-then-next-n : goal.returns-then-next-n
returns-then-next-n c = search (rules, short_end, not-false)

pub loop-n-preserved : goal.loop-n-preserved
loop-n-preserved c = search (rules, short_turn, not-false)
