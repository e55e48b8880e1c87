-- `check_book` meets its contract.
use borrow.Author.Rules.{rules}
use Rattle.book_check.proofs.Ways.{not_laid_out, plain_book, book_by_conflicts}
use Rattle.book_check.proofs.check_book.Goals as goal

pub returns-in_err-aliased : goal.returns-in_err-aliased
returns-in_err-aliased c = search (rules, not_laid_out)

pub returns : goal.returns
returns c = search (rules, plain_book)

pub returns-then-aliased : goal.returns-then-aliased
returns-then-aliased c = search (rules, book_by_conflicts)
