-- `point` meets its contract.
use borrow.Author.Tests.{not-true, not-false}
use borrow.Author.Rules.{rules}
use Rattle.book_onward.proofs.OnwardWays.{alias_pointed, other_passed}
use Rattle.book_onward.proofs.point.Goals as goal

pub returns-then-not-is_alias_at : goal.returns-then-not-is_alias_at
returns-then-not-is_alias_at c = search (rules, other_passed, not-true)

pub returns : goal.returns
returns c = search (rules, alias_pointed, not-false)
