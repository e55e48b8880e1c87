-- `note_questions` meets its contract. The loop's invariant: the names that are left give the same numbers in the end.
use native.Mathlib.Omega.{arith}
use borrow.Author.Rules.{rules}
use Rattle.read_request.proofs.RequestPlaces.{next_inside, left_less}
use Rattle.list_sets.proofs.Noting.{number_fits, halves, note_start, note_length, note_over, bad_name_lem, base_first, nothing_relevant, no_room, one_noted}
use Rattle.list_sets.proofs.note_questions.Goals as goal

pub loop-at-init : goal.loop-at-init
loop-at-init c = search (rules, note_start)

pub shape_of-numbers-in_err-r : goal.shape_of-numbers-in_err-r
shape_of-numbers-in_err-r c = search (rules, note_length)

pub returns-in_err-r : goal.returns-in_err-r
returns-in_err-r c = halves _ _ _ _ _ _ _ (search (rules, bad_name_lem))

pub slice_bounds-nearest_record-count : goal.slice_bounds-nearest_record-count
slice_bounds-nearest_record-count c = base_first _ _ _ _ _ _ _ _ _ _ c.loop-at.invariant c.loop-at-test.true _ c.requested_name.ensures _ c.in_ok-r.was

pub slice_bounds-nearest_record-start : goal.slice_bounds-nearest_record-start
slice_bounds-nearest_record-start c = base_first _ _ _ _ _ _ _ _ _ _ c.loop-at.invariant c.loop-at-test.true _ c.requested_name.ensures _ c.in_ok-r.was

pub slice_bounds-nearest_record-end : goal.slice_bounds-nearest_record-end
slice_bounds-nearest_record-end c = search (rules, next_inside)

pub shape_of-numbers-then-numbers-n : goal.shape_of-numbers-then-numbers-n
shape_of-numbers-then-numbers-n c = search (rules, note_length)

pub returns-then-numbers-n : goal.returns-then-numbers-n
returns-then-numbers-n c = halves _ _ _ _ _ _ _ (search (rules, no_room))

pub overflow_cast-numbers : goal.overflow_cast-numbers
overflow_cast-numbers c = search (rules, number_fits)

pub offset_bounds-numbers-n : goal.offset_bounds-numbers-n
offset_bounds-numbers-n c = omega (arith, c.loop-at.invariant.same_length)

pub overflow_add-n : goal.overflow_add-n
overflow_add-n c = omega (arith, c.loop-at.invariant.same_length)

pub loop-at-smaller-in-Some : goal.loop-at-smaller-in-Some
loop-at-smaller-in-Some c = search (rules, left_less)

pub loop-at-preserved-in-Some : goal.loop-at-preserved-in-Some
loop-at-preserved-in-Some c = search (rules, one_noted)

pub loop-at-smaller : goal.loop-at-smaller
loop-at-smaller c = search (rules, left_less)

pub loop-at-preserved : goal.loop-at-preserved
loop-at-preserved c = search (rules, nothing_relevant)

pub shape_of-numbers : goal.shape_of-numbers
shape_of-numbers c = search (rules, note_length)

pub returns : goal.returns
returns c = halves _ _ _ _ _ _ _ (search (rules, note_over))
