-- `label_above` meets its contract. The loop's invariant: the labels from the offset on give the answer.
use borrow.Author.Rules.{rules}
use Rattle.read_name.proofs.Parents.{up_less}
use Rattle.session_kept.proofs.LabelsAbove.{labels_start, at_top, at_inside, at_label, labels_turn}
use Rattle.session_kept.proofs.label_above.Goals as goal

pub loop-at-init : goal.loop-at-init
loop-at-init c x g e = search (rules, labels_start)

pub returns-then-next-at : goal.returns-then-next-at
returns-then-next-at c x g e = let w = c.loop-at.invariant x g e in search (rules, at_top)

pub overflow_sub-result : goal.overflow_sub-result
overflow_sub-result c = search (rules, at_inside)

pub returns-then-left-eq0 : goal.returns-then-left-eq0
returns-then-left-eq0 c x g e = let w = c.loop-at.invariant x g e in search (rules, at_label)

pub loop-at-smaller : goal.loop-at-smaller
loop-at-smaller c = search (rules, up_less)

pub loop-at-preserved : goal.loop-at-preserved
loop-at-preserved c x g e = let w = c.loop-at.invariant x g e in search (rules, labels_turn)
