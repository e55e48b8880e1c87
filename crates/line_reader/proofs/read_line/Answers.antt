-- `read_line` meets its contract: a law of parse_line for each return.
use borrow.Author.Rules.{rules}
use Rattle.line_parts.proofs.ValuePlaces.{value_starts, value_inside}
use Rattle.line_reader.proofs.ReadWays.{line_too_long, wrong_fields, tag_starts, tag_ends, value_begins, wrong_value, passed_answer, passed_octets}
use Rattle.line_reader.proofs.read_line.Goals as goal

pub returns-then-line-gt-MAX_LINE_OCTETS : goal.returns-then-line-gt-MAX_LINE_OCTETS
returns-then-line-gt-MAX_LINE_OCTETS c = search (rules, line_too_long)

pub returns-in_err-l : goal.returns-in_err-l
returns-in_err-l c = search (rules, wrong_fields)

pub slice_bounds-value-count : goal.slice_bounds-value-count
slice_bounds-value-count c = search (rules, value_begins)

pub slice_bounds-value-start : goal.slice_bounds-value-start
slice_bounds-value-start c = search (rules, value_begins)

pub returns-in_err-v : goal.returns-in_err-v
returns-in_err-v c = search (rules, wrong_value)

pub slice_bounds-units-count : goal.slice_bounds-units-count
slice_bounds-units-count c = search (rules, value_starts)

pub slice_bounds-units-start : goal.slice_bounds-units-start
slice_bounds-units-start c = search (rules, value_starts)

pub slice_bounds-units-end : goal.slice_bounds-units-end
slice_bounds-units-end c = search (rules, value_inside)

pub slice_bounds-tag-count : goal.slice_bounds-tag-count
slice_bounds-tag-count c = search (rules, tag_starts)

pub slice_bounds-tag-start : goal.slice_bounds-tag-start
slice_bounds-tag-start c = search (rules, tag_starts)

pub slice_bounds-tag-end : goal.slice_bounds-tag-end
slice_bounds-tag-end c = search (rules, tag_ends)

pub returns : goal.returns
returns c = record {
  answer = passed_answer _ c.if-line-gt-MAX_LINE_OCTETS.false _ c.read_fields.ensures c.in_ok-l.l c.in_ok-l.ensures.ok_part _ c.read_line_value.ensures c.in_ok-v.v c.in_ok-v.ensures.ok_part c.args.buffer.now _ c.write_data.ensures.answer;
  octets = passed_octets _ c.if-line-gt-MAX_LINE_OCTETS.false _ c.read_fields.ensures c.in_ok-l.l c.in_ok-l.ensures.ok_part _ c.read_line_value.ensures c.in_ok-v.v c.in_ok-v.ensures.ok_part c.args.buffer.now _ c.write_data.ensures.octets;
}
