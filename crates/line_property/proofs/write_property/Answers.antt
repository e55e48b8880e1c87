-- `write_property` meets its contract: a law of write_property for each return.
use Rattle.std.proofs.Common.{ap, sym, arith}
use borrow.Author.Rules.{rules}
use Rattle.line_property.proofs.PropertyWays.{part_short, tag_too_long, value_too_long, no_room, line_stands}
use Rattle.line_property.proofs.write_property.Goals as goal

pub returns-then-tag-gt-MAX_DATA_OCTETS : goal.returns-then-tag-gt-MAX_DATA_OCTETS
returns-then-tag-gt-MAX_DATA_OCTETS c = search (rules, tag_too_long)

pub returns-then-value-gt-MAX_DATA_OCTETS : goal.returns-then-value-gt-MAX_DATA_OCTETS
returns-then-value-gt-MAX_DATA_OCTETS c = search (rules, value_too_long)

pub line_length-n-requires : goal.line_length-n-requires
line_length-n-requires c = search (rules, part_short)

pub returns-then-buffer-n : goal.returns-then-buffer-n
returns-then-buffer-n c = search (rules, no_room, part_short)

pub returns : goal.returns
returns c =
    let a = c.args in
    let e = line_stands a.flags a.tag.now a.value.now a.buffer.now (search (rules, part_short)) (search (rules, part_short)) c.line_length-n.result c.line_length-n.ensures _ _ (omega arith) c.put_line.ensures in
    record { answer = ap (λ o. o.answer) (sym e); octets = ap (λ o. o.buffer) (sym e) }
