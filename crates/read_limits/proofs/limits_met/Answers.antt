-- `limits_met` meets its contract. The loop's invariant: the parameters that are left give the same answer.
use borrow.Author.Rules.{rules}
use Rattle.text_labels.proofs.PieceWalk.{piece_from, piece_within, pieces_less}
use Rattle.read_limits.proofs.LimitWalk.{from_start, not_admitted, last_admitted, next_admitted}
use Rattle.read_limits.proofs.limits_met.Goals as goal

pub loop-next-init : goal.loop-next-init
loop-next-init c = search (rules, from_start)

pub slice_bounds-limit_step-count : goal.slice_bounds-limit_step-count
slice_bounds-limit_step-count c = search (rules, piece_from)

pub slice_bounds-limit_step-start : goal.slice_bounds-limit_step-start
slice_bounds-limit_step-start c = search (rules, piece_from)

pub slice_bounds-limit_step-end : goal.slice_bounds-limit_step-end
slice_bounds-limit_step-end c = search (rules, piece_within)

pub returns-in_default : goal.returns-in_default
returns-in_default c = search (rules, not_admitted)

pub returns-then-s-e : goal.returns-then-s-e
returns-then-s-e c = search (rules, last_admitted)

pub loop-next-smaller : goal.loop-next-smaller
loop-next-smaller c = search (rules, pieces_less)

pub loop-next-preserved : goal.loop-next-preserved
loop-next-preserved c = search (rules, next_admitted)
