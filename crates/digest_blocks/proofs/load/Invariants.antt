-- `load` meets its contract. The loop's invariant: the words before t are loaded.
use Rattle.std.proofs.Common.{◌≡◌, map, length, take}
use Rattle.spec_octets.specs.Reader.{value_from}
use Rattle.spec_digest.specs.Padding.{cut}
use Rattle.digest_blocks.proofs.load.Given as goal

abbrev pub invariant-loop-t : goal.invariant-loop-t
invariant-loop-t g l =
    (length l.words ≡ length l.initial.words)
    × (take l.t (map g.W.Word.number l.words) ≡ map (value_from 0) (cut l.t g.W.Word.member.word_octets l.block))
