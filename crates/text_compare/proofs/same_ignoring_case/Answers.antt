-- `same_ignoring_case` meets its contract.
use borrow.Author.Rules.{rules}
use Rattle.text_compare.proofs.TextWalk.{lengths_first, octet_differs}
use Rattle.text_compare.proofs.same_ignoring_case.Goals as goal

pub returns-then-a-b : goal.returns-then-a-b
returns-then-a-b c = search (rules, lengths_first)

pub returns-then-to_lower : goal.returns-then-to_lower
returns-then-to_lower c = search (rules, octet_differs)
