-- `by_issue` meets its contract.
use borrow.Author.Rules.{rules}
use Rattle.book_authorization.proofs.Ways.{no_issue, issue_governs}
use Rattle.book_authorization.proofs.by_issue.Goals as goal

pub returns-in-None : goal.returns-in-None
returns-in-None c = search (rules, no_issue)

pub returns-in-Some : goal.returns-in-Some
returns-in-Some c = search (rules, issue_governs)
