-- `set_authorization` meets its contract.
use borrow.Author.Rules.{rules}
use Rattle.book_authorization.proofs.Ways.{alias_stands, critical_forbids, tags_decide}
use Rattle.book_authorization.proofs.set_authorization.Goals as goal

pub returns-then-is_alias_at : goal.returns-then-is_alias_at
returns-then-is_alias_at c = search (rules, alias_stands)

pub returns-in-Some : goal.returns-in-Some
returns-in-Some c = search (rules, critical_forbids)

pub returns : goal.returns
returns c = search (rules, tags_decide)
