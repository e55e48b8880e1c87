-- `are_host_labels` meets its contract. The loop's invariant: the remaining labels give the result for the whole name.
use borrow.Author.Rules.{rules}
use borrow.Author.Tests.{not-true, not-false}
use Rattle.read_name.proofs.Parents.{up_inside, up_less}
use Rattle.read_request.proofs.HostNames.{labels_start, labels_end, labels_stop, labels_turn}
use Rattle.read_request.proofs.are_host_labels.Goals as goal

pub loop-at-init : goal.loop-at-init
loop-at-init c n g e = search (rules, labels_start)

pub returns-then-next-at : goal.returns-then-next-at
returns-then-next-at c n g e = let left = c.loop-at.invariant n g e in search (rules, labels_end)

pub slice_bounds-is_label-end : goal.slice_bounds-is_label-end
slice_bounds-is_label-end c = search (rules, up_inside)

pub returns-then-not-is_label : goal.returns-then-not-is_label
returns-then-not-is_label c n g e = let left = c.loop-at.invariant n g e in search (rules, labels_stop, not-true)

pub loop-at-smaller : goal.loop-at-smaller
loop-at-smaller c = search (rules, up_less)

pub loop-at-preserved : goal.loop-at-preserved
loop-at-preserved c n g e = let left = c.loop-at.invariant n g e in search (rules, labels_turn, not-false)
