-- `look` meets its contract.
use borrow.Author.Rules.{rules}
use Rattle.spec_limits.specs.Limits.{max_records}
use Rattle.book_places.specs.Table.{few_records, short_book}
use Rattle.book_places.proofs.StandingRecords.{room_short, room_long}
use Rattle.session_look.proofs.look.Goals as goal

pub look_with-requires : goal.look_with-requires
unfolding max_records few_records short_book
look_with-requires c = search (rules, room_short, room_long)

pub look_with-requires-else-book-le-SHORT_BOOK : goal.look_with-requires-else-book-le-SHORT_BOOK
unfolding max_records few_records short_book
look_with-requires-else-book-le-SHORT_BOOK c = search (rules, room_short, room_long)
