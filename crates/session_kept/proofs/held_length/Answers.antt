-- `held_length` meets its contract.
use borrow.Author.Rules.{rules}
use Rattle.session_kept.proofs.HeldTexts.{in_room, no_room}
use Rattle.session_kept.proofs.held_length.Goals as goal

pub returns-then-t-le-MAX_TEXT_OCTETS : goal.returns-then-t-le-MAX_TEXT_OCTETS
returns-then-t-le-MAX_TEXT_OCTETS c = search (rules, in_room)

pub returns-else-t-le-MAX_TEXT_OCTETS : goal.returns-else-t-le-MAX_TEXT_OCTETS
returns-else-t-le-MAX_TEXT_OCTETS c = search (rules, no_room)
