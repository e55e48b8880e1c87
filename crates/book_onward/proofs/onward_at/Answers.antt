-- `onward_at` meets its contract.
use borrow.Author.Rules.{rules}
use Rattle.book_onward.proofs.OnwardWays.{no_number, no_record_lem, one_record}
use Rattle.book_onward.proofs.onward_at.Goals as goal

pub returns-in_err-get : goal.returns-in_err-get
returns-in_err-get c = search (rules, no_number)

pub returns-then-links-k : goal.returns-then-links-k
returns-then-links-k c = search (rules, no_record_lem)

pub returns : goal.returns
returns c = search (rules, one_record)
