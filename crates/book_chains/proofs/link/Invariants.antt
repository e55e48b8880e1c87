-- `link` meets its contract. The loop's invariant: linking the records that are left gives the same chains.
use Rattle.spec_limits.specs.Limits.{max_records}
use Rattle.book_places.specs.Chains.{at_most}
use Rattle.book_chains.proofs.Linking.{Left}
use Rattle.book_chains.proofs.link.Given as goal

abbrev pub invariant-loop-i : goal.invariant-loop-i
invariant-loop-i l = Left l.book l.table l.initial.links l.initial.heads (at_most max_records l.n) l.links l.heads l.i
