-- The sum stays below 2 ^ 32.
use Rattle.std.proofs.Common.{◌<◌}
use Rattle.test_runs.proofs.checksum.Given as goal

abbrev pub invariant-loop-b : goal.invariant-loop-b
invariant-loop-b l = l.sum < 4294967296
