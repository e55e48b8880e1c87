-- `put_tail` meets its contract.
use Rattle.std.proofs.Common.{arith}
use Rattle.digest_padding.proofs.PaddingWrites.{no_tail_answer, no_tail_octets, tail_answer, tail_octets}
use Rattle.digest_padding.proofs.put_tail.Goals as goal

pub returns-then-out-rest : goal.returns-then-out-rest
returns-then-out-rest g c =
    let rest = c.remainder-rest.ensures.0 in
    let count = c.count_zeros-count.ensures.0 in
    let octets = g.met.W.Word.octets_of_member in
    record {
      answer = no_tail_answer _ _ _ rest _ count _ octets _ (omega arith);
      octets = no_tail_octets _ _ _ rest _ count _ octets _ (omega arith);
    }

pub returns : goal.returns
returns g c =
    let rest = c.remainder-rest.ensures.0 in
    let count = c.count_zeros-count.ensures.0 in
    let octets = g.met.W.Word.octets_of_member in
    record {
      answer = tail_answer _ _ _ rest _ count _ octets _ (omega arith) _ _ c.put_parts.ensures;
      octets = tail_octets _ _ _ rest _ count _ octets _ (omega arith) _ _ c.put_parts.ensures;
    }
