-- `extend` meets its contract. The loop's invariant: the words before t are made, and what is left gives the same words.
use Rattle.std.proofs.Common.{◌≡◌, map, length}
use Rattle.spec_digest.specs.Family.{extended}
use Rattle.spec_digest.proofs.RoundLaws.{scheduled_from}
use Rattle.digest_schedule.proofs.extend.Given as goal

abbrev pub invariant-loop-t : goal.invariant-loop-t
invariant-loop-t g l =
    let m = g.W.Word.member in
    let numbers = map g.W.Word.number in
    (length l.words ≡ length l.initial.words)
    × (extended m (numbers l.initial.words) ≡ scheduled_from m (length (numbers l.initial.words)) l.t (numbers l.words))
