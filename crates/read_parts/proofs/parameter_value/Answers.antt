-- `parameter_value` meets its contract.
use borrow.Author.Rules.{rules}
use Rattle.read_parts.proofs.PartTests.{no_value, value_found}
use Rattle.read_parts.proofs.parameter_value.Goals as goal

pub returns-then-t-equals : goal.returns-then-t-equals
returns-then-t-equals c = search (rules, no_value)

pub returns : goal.returns
returns c = search (rules, value_found)
