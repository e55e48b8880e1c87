-- `mark` meets its contract. The loop's invariant: the rounds that are left to move give the same rounds in the end.
use Rattle.list_rounds.proofs.MarkLoop.{move_start, moved_length, move_done, other_round, other_name, moved_on}
use borrow.Author.Rules.{rules}
use Rattle.list_rounds.proofs.mark.Goals as goal
use Rattle.list_rounds.proofs.mark.Goals.{then-round-t+then-same_ignoring_case, else-round-t, else-round-t-via-then-round-t+else-same_ignoring_case, else-round-t-via-else-round-t}

pub loop-i-init : goal.loop-i-init
loop-i-init c = search (rules, move_start)

pub loop-i-preserved : goal.loop-i-preserved
loop-i-preserved c = elim c.if-round-t.branch [
  | then-round-t+then-same_ignoring_case w ↦ rw w.rounds-is (search (rules, moved_on))
  | else-round-t w ↦ rw w.rounds-is (elim w.else-round-t.branch [
    | else-round-t-via-then-round-t+else-same_ignoring_case v ↦ search (rules, other_name)
    | else-round-t-via-else-round-t v ↦ search (rules, other_round)
  ])
]

pub shape_of-rounds : goal.shape_of-rounds
shape_of-rounds c = search (rules, moved_length)

pub returns : goal.returns
returns c = search (rules, move_done)
