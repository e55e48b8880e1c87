-- `names_method` meets its contract. The loop's invariant: what is left of the items gives the same answer.
use mathlib.Core.Logic.{⊎_elim}
use borrow.Author.Rules.{rules}
use Rattle.text_labels.proofs.PieceWalk.{piece_from, piece_within, pieces_less}
use Rattle.read_methods.proofs.ItemWalk.{item_empty, found_last, other_last, found_next, other_next}
use Rattle.read_methods.proofs.names_method.Goals as goal

pub slice_bounds-item-count : goal.slice_bounds-item-count
slice_bounds-item-count c = search (rules, piece_from)

pub slice_bounds-item-start : goal.slice_bounds-item-start
slice_bounds-item-start c = search (rules, piece_from)

pub slice_bounds-item-end : goal.slice_bounds-item-end
slice_bounds-item-end c = search (rules, piece_within)

pub returns-then-item-eq0 : goal.returns-then-item-eq0
returns-then-item-eq0 c = search (rules, item_empty)

pub returns-then-value-e : goal.returns-then-value-e
returns-then-value-e c = ⊎_elim (λ w. search (rules, found_last)) (λ w. search (rules, other_last)) c.if-is_same.branch-raw

pub loop-item-smaller : goal.loop-item-smaller
loop-item-smaller c = search (rules, pieces_less)

pub loop-item-preserved : goal.loop-item-preserved
loop-item-preserved c = ⊎_elim (λ w. search (rules, found_next)) (λ w. search (rules, other_next)) c.if-is_same.branch-raw
