-- `name_touched` meets its contract. The loop's invariant: from the offset reached on, the walk comes to its answer.
use borrow.Author.Rules.{rules}
use Rattle.read_name.proofs.Parents.{at_before, closer}
use Rattle.edit_reach.proofs.ReachWays.{parent_inside, ask_start, at_the_root, touched_here, not_here}
use Rattle.edit_reach.proofs.name_touched.Goals as goal

pub loop-above-init : goal.loop-above-init
loop-above-init c = search (rules, ask_start)

pub returns-then-parent-at : goal.returns-then-parent-at
returns-then-parent-at c = search (rules, at_the_root)

pub slice_bounds-touches-count : goal.slice_bounds-touches-count
slice_bounds-touches-count c = search (rules, at_before, parent_inside)

pub slice_bounds-touches-start : goal.slice_bounds-touches-start
slice_bounds-touches-start c = search (rules, at_before, parent_inside)

pub returns-then-touches : goal.returns-then-touches
returns-then-touches c = search (rules, touched_here)

pub loop-above-smaller : goal.loop-above-smaller
loop-above-smaller c = search (rules, closer)

pub loop-above-preserved : goal.loop-above-preserved
loop-above-preserved c = search (rules, not_here)
