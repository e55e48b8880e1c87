-- `any_grants` meets its contract. The loop's invariant: some record grants where one of those that are left does.
use lib.ListN.{length}
use Rattle.spec_applicant.specs.Applicants.{texts}
use Rattle.book_places.specs.Table.{owner_at}
use Rattle.book_places.specs.Sets.{owned_from}
use Rattle.book_set.proofs.SetLaws.{GrantsLeft}
use Rattle.book_set.proofs.any_grants.Given as goal

abbrev pub invariant-loop-r : goal.invariant-loop-r
invariant-loop-r l = GrantsLeft (texts l.applicant) l.tag l.issuer l.index.book.now l.index.table.now l.index.links.now l.first (owner_at l.index.book.now l.index.table.now l.first) l.from

abbrev pub decreases-loop-r : goal.decreases-loop-r
decreases-loop-r l = length (owned_from l.index.book.now l.index.table.now l.index.links.now (owner_at l.index.book.now l.index.table.now l.first) l.from)
