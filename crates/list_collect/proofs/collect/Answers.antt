-- `collect` meets its contract. The loop's invariant: the grants that are left, behind the candidates so far, give the same candidates.
use Rattle.list_places.proofs.GrantWalk.{fewer_grants}
use Rattle.list_collect.proofs.GrantLoops.{collect_start, collect_length, all_counted, all_collected, known, new}
use borrow.Author.Tests.{not-true, not-false}
use borrow.Author.Rules.{rules}
use Rattle.list_collect.proofs.collect.Goals as goal

pub loop-g-init : goal.loop-g-init
loop-g-init c = search (rules, collect_start)

pub loop-g-smaller-then-not-is_candidate : goal.loop-g-smaller-then-not-is_candidate
loop-g-smaller-then-not-is_candidate c = search (rules, fewer_grants)

pub loop-g-preserved-then-not-is_candidate : goal.loop-g-preserved-then-not-is_candidate
loop-g-preserved-then-not-is_candidate c = search (rules, not-true, new)

pub loop-g-smaller : goal.loop-g-smaller
loop-g-smaller c = search (rules, fewer_grants)

pub loop-g-preserved : goal.loop-g-preserved
loop-g-preserved c = search (rules, not-false, known)

pub shape_of-names : goal.shape_of-names
shape_of-names c = search (rules, collect_length)

pub returns : goal.returns
returns c = record { answer = search (rules, all_counted); numbers = search (rules, all_collected) }
