-- `collect` meets its contract. The loop's invariant: the grants that are left, behind the candidates so far, give the same candidates.
use lib.ListN.{length}
use Rattle.spec_applicant.specs.Applicants.{texts}
use Rattle.list_places.specs.Grants.{grants_from}
use Rattle.list_collect.proofs.GrantLoops.{Collecting}
use Rattle.list_collect.proofs.collect.Given as goal

abbrev pub invariant-loop-g : goal.invariant-loop-g
invariant-loop-g l = Collecting (texts l.applicant) l.index.book.now l.index.table.now l.index.links.now l.by l.initial.names l.names l.count l.at

abbrev pub decreases-loop-g : goal.decreases-loop-g
decreases-loop-g l = length (grants_from (texts l.applicant) l.index.book.now l.index.table.now l.index.links.now l.by l.at)
