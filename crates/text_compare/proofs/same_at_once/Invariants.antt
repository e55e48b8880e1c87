-- `same_at_once` meets its contract. The loop's invariant: the texts are the same exactly when `same` is true and the remaining octets are
-- the same.
use Rattle.std.proofs.Common.{◌≡◌, ◌&&◌, length}
use Rattle.spec_octets.specs.Octets.{equal_ignoring_case}
use Rattle.text_compare.proofs.same_at_once.Given as goal

abbrev pub invariant-loop-p : goal.invariant-loop-p
invariant-loop-p l =
    (length l.p-iterator.a.rest.now ≡ length l.p-iterator.b.rest.now)
    × (equal_ignoring_case l.a l.b ≡ (l.same && equal_ignoring_case l.p-iterator.a.rest.now l.p-iterator.b.rest.now))
