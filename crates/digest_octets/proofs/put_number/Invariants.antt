-- `put_number` meets its contract. The loop's invariant: the octets from i on are written, and `left` is the number of those before.
use Rattle.std.proofs.Common.{◌≡◌, ◌++◌, length, drop}
use Rattle.spec_octets.specs.Reader.{in_octets}
use Rattle.digest_octets.proofs.put_number.Given as goal

abbrev pub invariant-loop-i : goal.invariant-loop-i
invariant-loop-i l =
    (length l.out ≡ length l.initial.out) × (in_octets l.k l.x ++ drop l.k l.initial.out ≡ in_octets l.i l.left ++ drop l.i l.out)
