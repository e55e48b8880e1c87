-- `absorb` meets its contract. The loop's invariant: the blocks that are left give the same hash value.
use Rattle.std.proofs.Common.{◌≡◌, ◌*◌}
use Rattle.std.specs.Slice.Iter.{chunks_exact_rest, chunks_exact_size}
use Rattle.spec_digest.specs.Family.{absorbed}
use Rattle.digest_rounds.specs.States.{state}
use Rattle.digest_blocks.proofs.absorb.Given as goal

abbrev pub invariant-loop-block : goal.invariant-loop-block
invariant-loop-block g l =
    let m = g.W.Word.member in
    let number = g.W.Word.number in
    (chunks_exact_size l.block-iterator ≡ 16 * m.word_octets)
    × (absorbed m (state number l.initial.v) l.s ≡ absorbed m (state number l.v) (chunks_exact_rest l.block-iterator))
