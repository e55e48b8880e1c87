-- `write_line` meets its contract: a law of write_line for each return.
use Rattle.std.proofs.Common.{ap, sym}
use borrow.Author.Rules.{rules}
use borrow.Author.Tests.{not-true, not-false}
use Rattle.line_writer.proofs.WriteWays.{data_too_long, no_data, not_plain, passed_answer, passed_octets}
use Rattle.line_writer.proofs.write_line.Goals as goal

pub returns-then-d-gt-MAX_DATA_OCTETS : goal.returns-then-d-gt-MAX_DATA_OCTETS
returns-then-d-gt-MAX_DATA_OCTETS c = search (rules, data_too_long)

pub returns-in_err-p : goal.returns-in_err-p
returns-in_err-p c = search (rules, no_data)

pub returns-then-not-all_of : goal.returns-then-not-all_of
returns-then-not-all_of c =
    let a = c.args in
    let e = not_plain a.d.now a.buffer.now (search rules) _ c.read_property.ensures c.in_ok-p.p c.in_ok-p.ensures.ok_part _ c.tag_part-tag.ensures c.all_of.result (search rules) (search (rules, not-true)) in
    record { answer = ap (λ o. o.answer) (sym e); octets = ap (λ o. o.buffer) (sym e) }

pub returns : goal.returns
returns c =
    record {
      answer = passed_answer c.args.d.now c.args.buffer.now c.if-d-gt-MAX_DATA_OCTETS.false _ c.read_property.ensures c.in_ok-p.p c.in_ok-p.ensures.ok_part _ c.tag_part-tag.ensures c.all_of.result c.all_of.ensures c.if-not-all_of.false _ c.value_part-value.ensures _ c.write_property.ensures.answer;
      octets = passed_octets c.args.d.now c.args.buffer.now c.if-d-gt-MAX_DATA_OCTETS.false _ c.read_property.ensures c.in_ok-p.p c.in_ok-p.ensures.ok_part _ c.tag_part-tag.ensures c.all_of.result c.all_of.ensures c.if-not-all_of.false _ c.value_part-value.ensures _ c.write_property.ensures.octets;
    }
