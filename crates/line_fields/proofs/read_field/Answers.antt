-- `read_field` meets its contract.
use borrow.Author.Rules.{rules}
use Rattle.line_fields.proofs.FieldPlaces.{field_open, rest_inside, field_closed}
use Rattle.line_fields.proofs.read_field.Goals as goal

pub returns-then-s-end : goal.returns-then-s-end
returns-then-s-end c = search (rules, field_open)

pub overflow_sub-next : goal.overflow_sub-next
overflow_sub-next c = search (rules, rest_inside)

pub returns : goal.returns
returns c = search (rules, field_closed)
