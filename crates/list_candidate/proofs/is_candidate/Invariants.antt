-- `is_candidate` meets its contract. The loop's invariant: the text is a candidate where it is one of those that are left.
use Rattle.list_candidate.proofs.CandidateWays.{Held}
use Rattle.list_candidate.proofs.is_candidate.Given as goal

abbrev pub invariant-loop-i : goal.invariant-loop-i
invariant-loop-i l = Held l.book l.names l.count l.x l.i
