-- `is_unknown_critical` meets its contract.
use borrow.Author.Rules.{rules}
use Rattle.book_tests.proofs.DataTests.{no_critical, low_flags, tag_asked}
use Rattle.book_tests.proofs.is_unknown_critical.Goals as goal

pub returns-in_default : goal.returns-in_default
returns-in_default c = search (rules, no_critical)

pub returns-then-p-ge128 : goal.returns-then-p-ge128
returns-then-p-ge128 c = search (rules, tag_asked)

pub returns-else-p-ge128 : goal.returns-else-p-ge128
returns-else-p-ge128 c = search (rules, low_flags)
