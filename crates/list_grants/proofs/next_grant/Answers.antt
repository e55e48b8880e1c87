-- `next_grant` meets its contract. The loop's invariant: the records that are left have the same first grant.
use Rattle.read_grantee.proofs.Grantees.{grantee_from}
use Rattle.book_places.proofs.OwnedWalk.{fewer_left}
use Rattle.list_grants.proofs.GrantWays.{walk_start, no_grant, untagged, nobody, somebody}
use borrow.Author.Rules.{rules}
use Rattle.list_grants.proofs.next_grant.Goals as goal

pub loop-r-init : goal.loop-r-init
loop-r-init c = search (rules, walk_start)

pub returns-in_err-r : goal.returns-in_err-r
returns-in_err-r c = search (rules, no_grant)

pub loop-r-smaller-then-not-has_tag : goal.loop-r-smaller-then-not-has_tag
loop-r-smaller-then-not-has_tag c = search (rules, fewer_left)

pub loop-r-preserved-then-not-has_tag : goal.loop-r-preserved-then-not-has_tag
loop-r-preserved-then-not-has_tag c = search (rules, untagged)

pub grant_in-requires : goal.grant_in-requires
grant_in-requires c = search (rules, grantee_from)

pub returns-in-Some : goal.returns-in-Some
returns-in-Some c = search (rules, somebody)

pub loop-r-smaller : goal.loop-r-smaller
loop-r-smaller c = search (rules, fewer_left)

pub loop-r-preserved : goal.loop-r-preserved
loop-r-preserved c = search (rules, nobody)
