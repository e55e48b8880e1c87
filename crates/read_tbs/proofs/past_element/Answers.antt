-- `past_element` meets its contract.
use borrow.Author.Rules.{rules}
use Rattle.read_tbs.proofs.PastLaws.{past_fault, no_element_past, element_past}
use Rattle.read_tbs.proofs.past_element.Goals as goal

pub returns-in_err-from : goal.returns-in_err-from
returns-in_err-from c = search (rules, past_fault)

pub returns-in_err-e : goal.returns-in_err-e
returns-in_err-e c = search (rules, no_element_past)

pub returns : goal.returns
returns c = search (rules, element_past)
