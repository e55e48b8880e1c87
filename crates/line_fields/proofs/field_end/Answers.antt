-- `field_end` meets its contract. The loop's invariant: the field ends where the rest of it, from offset e on, ends.
use borrow.Author.Rules.{rules}
use Rattle.line_fields.proofs.FieldEnds.{field_goes_on, field_stops, line_ends}
use Rattle.line_fields.proofs.field_end.Goals as goal

pub returns-then-is_blank : goal.returns-then-is_blank
returns-then-is_blank c = search (rules, field_stops)

pub loop-e-preserved : goal.loop-e-preserved
loop-e-preserved c = search (rules, field_goes_on)

pub returns : goal.returns
returns c = search (rules, line_ends)
