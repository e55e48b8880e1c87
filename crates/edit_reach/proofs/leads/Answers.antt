-- `leads` meets its contract. The loop's invariant: the answer is that from the record reached, with the aliases left.
use borrow.Author.Rules.{rules}
use Rattle.spec_limits.specs.Limits.{max_aliases}
use Rattle.edit_places.specs.Reach.{leads_to}
use Rattle.edit_reach.proofs.ReachWays.{leads_start, none_left, no_alias, leads_here, leads_nowhere, leads_on}
use Rattle.edit_reach.proofs.leads.Goals as goal

pub loop-r-init : goal.loop-r-init
unfolding max_aliases
loop-r-init c = search (rules, leads_start)

pub returns-then-left-eq0 : goal.returns-then-left-eq0
returns-then-left-eq0 c = search (rules, none_left)

pub returns-then-same_ignoring_case : goal.returns-then-same_ignoring_case
unfolding leads_to max_aliases
returns-then-same_ignoring_case c = search (rules, leads_here)

pub returns-in_default : goal.returns-in_default
unfolding leads_to max_aliases
returns-in_default c = search (rules, leads_nowhere)

pub loop-r-preserved : goal.loop-r-preserved
loop-r-preserved c = search (rules, leads_on)

pub returns : goal.returns
unfolding leads_to max_aliases
returns c = search (rules, no_alias)
