-- `has_tag` meets its contract.
use borrow.Author.Rules.{rules}
use Rattle.book_tests.proofs.DataTests.{no_tag, tag_compared}
use Rattle.book_tests.proofs.has_tag.Goals as goal

pub returns-in_default : goal.returns-in_default
returns-in_default c = search (rules, no_tag)

pub returns : goal.returns
returns c = search (rules, tag_compared)
