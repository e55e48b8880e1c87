-- `any_grants` meets its contract. The loop's invariant: some record grants where one of those that are left does.
use borrow.Author.Rules.{rules}
use Rattle.book_places.proofs.OwnedWalk.{fewer_left}
use Rattle.book_set.proofs.SetLaws.{grants_start, no_grant, untagged_passed, grant_found, grantless_passed}
use Rattle.book_set.proofs.any_grants.Goals as goal

pub loop-r-init : goal.loop-r-init
loop-r-init c = search (rules, grants_start)

pub returns : goal.returns
returns c = search (rules, no_grant)

pub returns-then-grants : goal.returns-then-grants
returns-then-grants c = search (rules, grant_found)

pub loop-r-smaller-else-grants : goal.loop-r-smaller-else-grants
loop-r-smaller-else-grants c = search (rules, fewer_left)

pub loop-r-preserved-else-grants : goal.loop-r-preserved-else-grants
loop-r-preserved-else-grants c = search (rules, grantless_passed)

pub loop-r-smaller : goal.loop-r-smaller
loop-r-smaller c = search (rules, fewer_left)

pub loop-r-preserved : goal.loop-r-preserved
loop-r-preserved c = search (rules, untagged_passed)
