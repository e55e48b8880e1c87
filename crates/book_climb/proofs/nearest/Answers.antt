-- `nearest` meets its contract. The loop's invariant: from the offset reached and the labels taken off, the climb comes to its answer.
-- `parent_inside` is for an edit that looks at the parent: its part of the name is sound, and its answer is not.
use borrow.Author.Rules.{rules}
use Rattle.read_name.proofs.Parents.{at_before, closer}
use Rattle.book_climb.proofs.ClimbLaws.{parent_inside, climb_start, no_parent, off_fits, none_owned, some_owned}
use Rattle.book_climb.proofs.nearest.Goals as goal

pub loop-above-init : goal.loop-above-init
loop-above-init c = search (rules, climb_start)

pub returns-then-parent-at : goal.returns-then-parent-at
returns-then-parent-at c = search (rules, no_parent)

pub slice_bounds-x-count : goal.slice_bounds-x-count
slice_bounds-x-count c = search (rules, at_before, parent_inside)

pub slice_bounds-x-start : goal.slice_bounds-x-start
slice_bounds-x-start c = search (rules, at_before, parent_inside)

pub returns-in-Some : goal.returns-in-Some
returns-in-Some c = search (rules, some_owned)

pub overflow_add-off : goal.overflow_add-off
overflow_add-off c = search (rules, off_fits)

pub loop-above-smaller : goal.loop-above-smaller
loop-above-smaller c = search (rules, closer)

pub loop-above-preserved : goal.loop-above-preserved
loop-above-preserved c = search (rules, none_owned)
