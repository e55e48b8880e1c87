-- `next_owned` meets its contract. The loop's invariant: the first record of the owner is the same from the record reached.
use Prim.Native.Nat.{◌-◌}
use mathlib.Core.Path.{◌≡◌}
use lib.ListN.{length}
use Rattle.book_places.specs.Sets.{owned_of, first_of}
use Rattle.book_look.proofs.next_owned.Given as goal

abbrev pub invariant-loop-i : goal.invariant-loop-i
invariant-loop-i l = first_of (owned_of l.kind l.index.book.now l.index.table.now l.index.links.now l.x l.from) ≡ first_of (owned_of l.kind l.index.book.now l.index.table.now l.index.links.now l.x l.i)

abbrev pub decreases-loop-i : goal.decreases-loop-i
decreases-loop-i l = length l.index.links.now - l.i
