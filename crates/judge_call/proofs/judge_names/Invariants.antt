-- `judge_names` meets its contract. The loop's invariant: with k names permitted, those left from `at` on give the answer, and each note is right.
use Prim.Native.Nat.{◌-◌}
use lib.ListN.{length}
use Rattle.spec_applicant.specs.Applicants.{texts}
use Rattle.judge_call.specs.Asked.{Asked}
use Rattle.judge_call.proofs.NameWalk.{Judged}
use Rattle.judge_call.proofs.judge_names.Given as goal

abbrev pub invariant-loop-at : goal.invariant-loop-at
invariant-loop-at l =
    Judged (texts l.applicant) l.request l.issuer l.index.book.now l.index.table.now l.index.links.now l.index.heads.now l.onward l.at l.k
    × Asked (texts l.applicant) l.issuer l.index.book.now l.index.table.now l.index.links.now l.asked

abbrev pub decreases-loop-at : goal.decreases-loop-at
decreases-loop-at l = length l.request - l.at
