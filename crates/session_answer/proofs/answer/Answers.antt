-- `answer` meets its contract.
use borrow.Author.Rules.{rules}
use borrow.Author.Tests.{not-true, not-false}
use Rattle.session_answer.proofs.AnswerLaws.{answers_not, book_refused, takes_answer, passes_check, answers_so}
use Rattle.session_answer.proofs.answer.Goals as goal

pub returns-then-not-is_asking : goal.returns-then-not-is_asking
returns-then-not-is_asking c = search (rules, answers_not, not-true)

pub returns-in-Err : goal.returns-in-Err
returns-in-Err c = search (rules, book_refused, not-false)

pub by_book-requires : goal.by_book-requires
by_book-requires c = search (rules, takes_answer, passes_check, not-false)

pub returns : goal.returns
returns c = search (rules, answers_so, not-false)
