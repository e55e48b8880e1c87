-- `fill_table` meets its contract. The loop's invariant: the rows that are left, put behind those that are written, give the same table.
use Prim.Native.Nat.{◌-◌}
use Rattle.spec_limits.specs.Limits.{max_records}
use Rattle.book_fill.proofs.Filling.{Filling}
use Rattle.book_fill.proofs.fill_table.Given as goal

abbrev pub invariant-loop-n : goal.invariant-loop-n
invariant-loop-n l = Filling l.book l.initial.table l.table l.at l.n

abbrev pub decreases-loop-n : goal.decreases-loop-n
decreases-loop-n l = max_records - l.n
