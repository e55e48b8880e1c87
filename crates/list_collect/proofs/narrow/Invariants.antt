-- `narrow` meets its contract. The loop's invariant: the grants that are left give the same rounds in the end.
use lib.ListN.{length}
use Rattle.spec_applicant.specs.Applicants.{texts}
use Rattle.list_places.specs.Grants.{grants_from}
use Rattle.list_collect.proofs.GrantLoops.{Narrowing}
use Rattle.list_collect.proofs.narrow.Given as goal

abbrev pub invariant-loop-g : goal.invariant-loop-g
invariant-loop-g l = Narrowing (texts l.applicant) l.index.book.now l.index.table.now l.index.links.now l.by l.names l.count l.t l.initial.rounds l.rounds l.at

abbrev pub decreases-loop-g : goal.decreases-loop-g
decreases-loop-g l = length (grants_from (texts l.applicant) l.index.book.now l.index.table.now l.index.links.now l.by l.at)
