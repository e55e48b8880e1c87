-- `head_length` meets its contract.
use borrow.Author.Rules.{rules}
use Rattle.tlsa_line_head.proofs.HeadParts.{sum_2, counted, sum_3, sum_4}
use Rattle.tlsa_line_head.proofs.head_length.Goals as goal

pub overflow_add-result : goal.overflow_add-result
overflow_add-result c = search (rules, sum_2)

pub overflow_add-result-2 : goal.overflow_add-result-2
overflow_add-result-2 c = search (rules, sum_3)

pub overflow_add-result-3 : goal.overflow_add-result-3
overflow_add-result-3 c = search (rules, sum_4)

pub returns : goal.returns
returns c = search (rules, counted)
