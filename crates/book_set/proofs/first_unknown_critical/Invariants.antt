-- `first_unknown_critical` meets its contract. The loop's invariant: the first is that of the records that are left.
use lib.ListN.{length}
use Rattle.book_places.specs.Table.{owner_at}
use Rattle.book_places.specs.Sets.{owned_from, data_is_unknown_critical}
use Rattle.book_set.proofs.SetLaws.{FirstLeft}
use Rattle.book_set.proofs.first_unknown_critical.Given as goal

abbrev pub invariant-loop-r : goal.invariant-loop-r
invariant-loop-r l = FirstLeft data_is_unknown_critical l.index.book.now l.index.table.now l.index.links.now l.first (owner_at l.index.book.now l.index.table.now l.first) l.at

abbrev pub decreases-loop-r : goal.decreases-loop-r
decreases-loop-r l = length (owned_from l.index.book.now l.index.table.now l.index.links.now (owner_at l.index.book.now l.index.table.now l.first) l.at)
