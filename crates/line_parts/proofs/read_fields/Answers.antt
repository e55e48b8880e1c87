-- `read_fields` meets its contract: a law of lineAt for each return.
use mathlib.Core.Path.{sym}
use lib.Seq.{length-take-le}
use borrow.Author.Rules.{rules}
use borrow.Author.Tests.{not-true, not-false}
use Rattle.line_fields.proofs.FieldPlaces.{field_starts, field_inside}
use Rattle.line_parts.proofs.LinePlaces.{no_first_field, wrong_flags, no_second_field, wrong_tag, line_there}
use Rattle.line_parts.proofs.read_fields.Goals as goal

pub returns-in_err-f : goal.returns-in_err-f
returns-in_err-f c = search (rules, no_first_field)

pub slice_bounds-decimal_octet-end : goal.slice_bounds-decimal_octet-end
slice_bounds-decimal_octet-end c = sym (search (rules, length-take-le, field_inside))

pub returns-in_err-flags : goal.returns-in_err-flags
returns-in_err-flags c = search (rules, wrong_flags)

pub returns-in_err-t : goal.returns-in_err-t
returns-in_err-t c = search (rules, no_second_field)

pub slice_bounds-is_line_tag-count : goal.slice_bounds-is_line_tag-count
slice_bounds-is_line_tag-count c = search (rules, field_starts)

pub slice_bounds-is_line_tag-start : goal.slice_bounds-is_line_tag-start
slice_bounds-is_line_tag-start c = search (rules, field_starts)

pub slice_bounds-is_line_tag-end : goal.slice_bounds-is_line_tag-end
slice_bounds-is_line_tag-end c = search (rules, field_inside)

pub returns-then-not-is_line_tag : goal.returns-then-not-is_line_tag
returns-then-not-is_line_tag c = search (rules, wrong_tag, not-true)

pub returns : goal.returns
returns c = search (rules, line_there, not-false)
