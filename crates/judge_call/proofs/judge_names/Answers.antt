-- `judge_names` meets its contract. The loop's invariant: with k names permitted, those left from `at` on give the answer, and each note is right.
use borrow.Author.Rules.{rules}
use Rattle.spec_limits.specs.Limits.{max_names}
use Rattle.read_request.proofs.RequestPlaces.{next_inside, left_less}
use Rattle.judge_call.proofs.AskedLaws.{same_notes}
use Rattle.judge_call.proofs.NameWalk.{names_start, few, no_bad_name, base_first, name_first, name_unrestricted, set_below, name_denied, name_permitted, all_passed}
use Rattle.judge_call.proofs.judge_names.Goals as goal

pub loop-at-init : goal.loop-at-init
loop-at-init c = search (rules, names_start)

pub shape_of-asked-in_default : goal.shape_of-asked-in_default
shape_of-asked-in_default c = search (rules, same_notes)

pub returns-in_default : goal.returns-in_default
returns-in_default c = search (rules, no_bad_name)

pub overflow_add-k : goal.overflow_add-k
unfolding max_names
overflow_add-k c = search (rules, few)

pub slice_bounds-nearest-count : goal.slice_bounds-nearest-count
slice_bounds-nearest-count c = search (rules, base_first, name_first)

pub slice_bounds-nearest-start : goal.slice_bounds-nearest-start
slice_bounds-nearest-start c = search (rules, base_first, name_first)

pub slice_bounds-nearest-end : goal.slice_bounds-nearest-end
slice_bounds-nearest-end c = search (rules, next_inside)

pub loop-at-smaller-in_default-found : goal.loop-at-smaller-in_default-found
loop-at-smaller-in_default-found c = search (rules, left_less)

pub loop-at-preserved-in_default-found : goal.loop-at-preserved-in_default-found
loop-at-preserved-in_default-found c = search (rules, name_unrestricted)

pub judge_once-judgement-requires : goal.judge_once-judgement-requires
judge_once-judgement-requires c = (search rules, search (rules, set_below))

pub loop-at-smaller : goal.loop-at-smaller
loop-at-smaller c = search (rules, left_less)

pub loop-at-preserved : goal.loop-at-preserved
loop-at-preserved c = search (rules, name_permitted)

pub shape_of-asked-in_default-judgement : goal.shape_of-asked-in_default-judgement
shape_of-asked-in_default-judgement c =
    let start = c in
    search (rules, same_notes, start.requires.1)

pub returns-in_default-judgement : goal.returns-in_default-judgement
returns-in_default-judgement c = search (rules, name_denied)

pub shape_of-asked : goal.shape_of-asked
shape_of-asked c = search (rules, same_notes)

pub returns : goal.returns
returns c = search (rules, all_passed)
