-- `is_candidate` meets its contract. The loop's invariant: the text is a candidate where it is one of those that are left.
use Rattle.list_candidate.proofs.CandidateWays.{held_start, held_done, held_here, held_next}
use borrow.Author.Rules.{rules}
use Rattle.list_candidate.proofs.is_candidate.Goals as goal

pub loop-i-init : goal.loop-i-init
loop-i-init c = search (rules, held_start)

pub returns-then-same_ignoring_case : goal.returns-then-same_ignoring_case
returns-then-same_ignoring_case c = search (rules, held_here)

pub loop-i-preserved : goal.loop-i-preserved
loop-i-preserved c = search (rules, held_next)

pub returns : goal.returns
returns c = search (rules, held_done)
