-- `check_records` meets its contract. The loop's invariant: k records are read, the next begins at `at`, and `aliased` says whether there is an alias
-- among those read.
use Prim.Native.Nat.{◌-◌}
use lib.ListN.{length}
use Rattle.read_record.proofs.BookWalk.{BookRead}
use Rattle.read_record.proofs.check_records.Given as goal

abbrev pub invariant-loop-at : goal.invariant-loop-at
invariant-loop-at l = BookRead l.b l.k l.at l.aliased

abbrev pub decreases-loop-at : goal.decreases-loop-at
decreases-loop-at l = length l.b - l.at
