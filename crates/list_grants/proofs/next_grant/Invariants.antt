-- `next_grant` meets its contract. The loop's invariant: the records that are left have the same first grant.
use lib.ListN.{length}
use Rattle.spec_applicant.specs.Applicants.{texts}
use Rattle.book_places.specs.Table.{owner_at}
use Rattle.book_places.specs.Sets.{owned_from}
use Rattle.list_grants.proofs.GrantWays.{Left}
use Rattle.list_grants.proofs.next_grant.Given as goal

abbrev pub invariant-loop-r : goal.invariant-loop-r
invariant-loop-r l =
    Left (texts l.applicant) l.index.book.now l.index.table.now l.index.links.now l.by l.from (owner_at l.index.book.now l.index.table.now l.by.set) l.at

abbrev pub decreases-loop-r : goal.decreases-loop-r
decreases-loop-r l = length (owned_from l.index.book.now l.index.table.now l.index.links.now (owner_at l.index.book.now l.index.table.now l.by.set) l.at)
