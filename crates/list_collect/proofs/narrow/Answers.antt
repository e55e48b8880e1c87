-- `narrow` meets its contract. The loop's invariant: the grants that are left give the same rounds in the end.
use Rattle.list_places.proofs.GrantWalk.{fewer_grants}
use Rattle.list_collect.proofs.GrantLoops.{narrow_start, narrow_length, all_narrowed, one_marked}
use borrow.Author.Rules.{rules}
use Rattle.list_collect.proofs.narrow.Goals as goal

pub loop-g-init : goal.loop-g-init
loop-g-init c = search (rules, narrow_start)

pub shape_of-rounds : goal.shape_of-rounds
shape_of-rounds c = search (rules, narrow_length)

pub returns : goal.returns
returns c = search (rules, all_narrowed)

pub loop-g-smaller : goal.loop-g-smaller
loop-g-smaller c = search (rules, fewer_grants)

pub loop-g-preserved : goal.loop-g-preserved
loop-g-preserved c = search (rules, one_marked)
