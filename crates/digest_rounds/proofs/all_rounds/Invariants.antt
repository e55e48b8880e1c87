-- `all_rounds` meets its contract. The loop's invariant: the rounds that are left give the same words.
use Rattle.std.proofs.Common.{◌≡◌, map}
use Rattle.spec_digest.specs.Family.{rounds}
use Rattle.digest_rounds.specs.States.{state}
use Rattle.digest_rounds.proofs.all_rounds.Given as goal

abbrev pub invariant-loop-k : goal.invariant-loop-k
invariant-loop-k g l =
    let m = g.W.Word.member in
    let number = g.W.Word.number in
    rounds m (state number l.initial.s) m.constants (map number l.words)
    ≡ rounds m (state number l.s) (map number l.k-iterator.a.rest.now) (map number l.k-iterator.b.rest.now)
