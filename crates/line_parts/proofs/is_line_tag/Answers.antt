-- `is_line_tag` meets its contract.
use borrow.Author.Rules.{rules}
use Rattle.line_parts.proofs.TagTests.{no_tag, tag_by_octets}
use Rattle.line_parts.proofs.is_line_tag.Goals as goal

pub returns-then-t-le-MAX_TAG_OCTETS : goal.returns-then-t-le-MAX_TAG_OCTETS
returns-then-t-le-MAX_TAG_OCTETS c = search (rules, tag_by_octets)

pub returns-else-t-le-MAX_TAG_OCTETS : goal.returns-else-t-le-MAX_TAG_OCTETS
returns-else-t-le-MAX_TAG_OCTETS c = search (rules, no_tag)
