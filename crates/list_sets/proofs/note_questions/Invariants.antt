-- `note_questions` meets its contract. The loop's invariant: the names that are left give the same numbers in the end.
use Prim.Native.Nat.{◌-◌}
use lib.ListN.{length}
use Rattle.list_sets.proofs.Noting.{Noting}
use Rattle.list_sets.proofs.note_questions.Given as goal

abbrev pub invariant-loop-at : goal.invariant-loop-at
invariant-loop-at l = Noting l.request l.index.book.now l.index.table.now l.index.links.now l.index.heads.now l.onward l.initial.numbers l.numbers l.n l.at

abbrev pub decreases-loop-at : goal.decreases-loop-at
decreases-loop-at l = length l.request - l.at
