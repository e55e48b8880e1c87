-- `read_name` meets its contract.
use borrow.Author.Rules.{rules}
use Rattle.read_value.proofs.NamePlaces.{name_shorter, name_missing, name_bad, name_good}
use Rattle.read_value.proofs.read_name.Goals as goal

pub returns-then-is_empty : goal.returns-then-is_empty
returns-then-is_empty c = search (rules, name_missing)

pub overflow_sub-result : goal.overflow_sub-result
overflow_sub-result c = search (rules, name_shorter)

pub returns-then-are_labels : goal.returns-then-are_labels
returns-then-are_labels c = search (rules, name_good)

pub returns-else-are_labels : goal.returns-else-are_labels
returns-else-are_labels c = search (rules, name_bad)
