-- `follow` meets its contract. The loop's invariant: the answer is that from the record reached, with the aliases left.
use borrow.Author.Rules.{rules}
use Rattle.spec_limits.specs.Limits.{max_aliases}
use Rattle.book_onward.proofs.OnwardWays.{at_first, at_the_end, too_many, leads_nowhere, followed_on}
use Rattle.book_onward.proofs.follow.Goals as goal

pub loop-first-init : goal.loop-first-init
unfolding max_aliases
loop-first-init c = search (rules, at_first)

pub returns-then-left-eq0 : goal.returns-then-left-eq0
returns-then-left-eq0 c = search (rules, too_many)

pub returns-in_err-next : goal.returns-in_err-next
returns-in_err-next c = search (rules, leads_nowhere)

pub loop-first-preserved : goal.loop-first-preserved
loop-first-preserved c = search (rules, followed_on)

pub returns : goal.returns
returns c = search (rules, at_the_end)
