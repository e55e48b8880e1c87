-- `are_labels` meets its contract. The loop's invariant: all labels are valid exactly when the remaining ones are.
use mathlib.Core.Path.{sym}
use borrow.Author.Rules.{rules}
use borrow.Author.Tests.{not-true, not-false}
use Rattle.text_labels.proofs.PieceWalk.{piece_from, piece_within, pieces_less, pieces_turn, pieces_end, pieces_stop}
use Rattle.text_labels.specs.DottedLabels.{are_labels}
use Rattle.text_labels.proofs.are_labels.Goals as goal

pub slice_bounds-is_label_within-count : goal.slice_bounds-is_label_within-count
slice_bounds-is_label_within-count c = search (rules, piece_from)

pub slice_bounds-is_label_within-start : goal.slice_bounds-is_label_within-start
slice_bounds-is_label_within-start c = search (rules, piece_from)

pub slice_bounds-is_label_within-end : goal.slice_bounds-is_label_within-end
slice_bounds-is_label_within-end c = search (rules, piece_within)

pub returns-then-not-is_label_within : goal.returns-then-not-is_label_within
unfolding are_labels
returns-then-not-is_label_within c = sym (search (rules, pieces_stop, not-true))

pub returns-then-s-e : goal.returns-then-s-e
unfolding are_labels
returns-then-s-e c = sym (search (rules, pieces_end, not-false))

pub loop-longest-smaller : goal.loop-longest-smaller
loop-longest-smaller c = search (rules, pieces_less)

pub loop-longest-preserved : goal.loop-longest-preserved
loop-longest-preserved c = search (rules, pieces_turn, not-false)
