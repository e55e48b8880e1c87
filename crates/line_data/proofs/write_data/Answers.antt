-- `write_data` meets its contract: a law of write_data for each return.
use Rattle.std.proofs.Common.{ap, sym}
use borrow.Author.Rules.{rules}
use Rattle.line_data.proofs.DataWays.{counts, are_units, short_tag, long_tag_lem, wrong_units, data_too_long, no_room, data_stands}
use Rattle.line_data.proofs.write_data.Goals as goal

pub returns-then-tag-gt-MAX_TAG_OCTETS : goal.returns-then-tag-gt-MAX_TAG_OCTETS
returns-then-tag-gt-MAX_TAG_OCTETS c = search (rules, long_tag_lem)

pub returns-in_err-k : goal.returns-in_err-k
returns-in_err-k c = search (rules, wrong_units)

pub returns-then-tag-k : goal.returns-then-tag-k
returns-then-tag-k c =
    let a = c.args in
    let e = data_too_long a.flags a.tag.now a.style a.units.now a.buffer.now (search rules) _ c.count_unescaped.ensures c.in_ok-k.k c.in_ok-k.ensures.ok_part (search rules) in
    record { answer = ap (λ o. o.answer) (sym e); octets = ap (λ o. o.buffer) (sym e) }

pub returns-then-buffer-size : goal.returns-then-buffer-size
returns-then-buffer-size c =
    let a = c.args in
    let e = no_room a.flags a.tag.now a.style a.units.now a.buffer.now (search rules) _ c.count_unescaped.ensures c.in_ok-k.k c.in_ok-k.ensures.ok_part (search rules) (search rules) in
    record { answer = ap (λ o. o.answer) (sym e); octets = ap (λ o. o.buffer) (sym e) }

pub put_data-requires : goal.put_data-requires
put_data-requires c =
    let counted = c.count_unescaped.ensures in
    let n = c.in_ok-k.k in
    record {
      tag_len_bound = search (rules, short_tag);
      units_value = are_units _ _ _ counted n c.in_ok-k.ensures.ok_part;
      units_in_bounds = rw (counts _ _ _ counted n c.in_ok-k.ensures.ok_part) c.if-buffer-size.false;
    }

pub returns : goal.returns
returns c =
    let a = c.args in
    let e = data_stands a.flags a.tag.now a.style a.units.now a.buffer.now (search rules) _ c.count_unescaped.ensures c.in_ok-k.k c.in_ok-k.ensures.ok_part (search rules) _ _ (search rules) c.put_data.ensures in
    record { answer = ap (λ o. o.answer) (sym e); octets = ap (λ o. o.buffer) (sym e) }
