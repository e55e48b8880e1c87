-- `list_size` meets its contract. The loop's invariant: what is counted and what the candidates left take is all.
use Rattle.list_entry.proofs.EntryLoops.{Measured}
use Rattle.list_entry.proofs.list_size.Given as goal

abbrev pub invariant-loop-i : goal.invariant-loop-i
invariant-loop-i l = Measured l.book l.names l.count l.rounds l.t l.kept l.octets l.i
