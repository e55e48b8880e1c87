-- `check_aliases` meets its contract.
use borrow.Author.Rules.{rules}
use Rattle.spec_limits.specs.Limits.{max_records}
use Rattle.book_places.specs.Table.{few_records, short_book}
use Rattle.book_places.proofs.StandingRecords.{room_short, room_long}
use Rattle.book_check.proofs.check_aliases.Goals as goal

pub check_with-requires : goal.check_with-requires
unfolding max_records few_records short_book
check_with-requires c = search (rules, room_short, room_long)

pub check_with-requires-2 : goal.check_with-requires-2
unfolding max_records few_records short_book
check_with-requires-2 c = search (rules, room_short, room_long)
