-- `Climb::up` meets its contract: a law of parent_place for each return.
use borrow.Author.Rules.{rules}
use Rattle.read_name.proofs.Parents.{past_end, at_root, cut_off, one_off}
use Rattle.read_name.proofs.Climb.up.Goals as goal
use Rattle.read_name.proofs.Climb.up.Goals.{then-label-eq0-via-then-label-eq0, then-label-eq0-via-else-label-eq0+then-name-next}

pub returns-then-name-self : goal.returns-then-name-self
returns-then-name-self c = search (rules, past_end)

pub returns-then-label-eq0 : goal.returns-then-label-eq0
returns-then-label-eq0 c = elim c.then-label-eq0.branch [
  | then-label-eq0-via-then-label-eq0 w ↦ search (rules, at_root)
  | then-label-eq0-via-else-label-eq0+then-name-next w ↦ search (rules, cut_off)
]

pub returns : goal.returns
returns c = search (rules, one_off)
