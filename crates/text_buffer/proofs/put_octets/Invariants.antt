-- `put_octets` meets its contract. The loop's invariant: the octets before offset i are written.
use Prim.Native.Nat.{◌≤◌}
use mathlib.Core.Path.{◌≡◌}
use lib.ListN.{length, take}
use Rattle.spec_octets.specs.Buffer.{Put}
use Rattle.text_buffer.proofs.put_octets.Given as goal

abbrev pub invariant-loop-i : goal.invariant-loop-i
invariant-loop-i l = (l.i ≤ length l.s) × (length l.out ≡ length l.initial.out) × Put (take l.i l.s) l.initial.out l.out l.i
