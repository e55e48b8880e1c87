-- `by_tags` meets its contract.
use borrow.Author.Rules.{rules}
use borrow.Author.Tests.{not-true, not-false}
use Rattle.book_authorization.proofs.Ways.{plain_by_issue, star_by_issue, issuewild_governs}
use Rattle.book_authorization.proofs.by_tags.Goals as goal

pub returns-then-not-wildcard : goal.returns-then-not-wildcard
returns-then-not-wildcard c = search (rules, not-true, plain_by_issue)

pub returns-in-None : goal.returns-in-None
returns-in-None c = search (rules, not-false, star_by_issue)

pub returns-in-Some : goal.returns-in-Some
returns-in-Some c = search (rules, not-false, issuewild_governs)
