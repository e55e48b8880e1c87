-- `put_entries` meets its contract. The loop's invariant: the entries put, and behind them those of the candidates left, are all of them.
use Rattle.list_entry.proofs.EntryLoops.{Placed}
use Rattle.list_entry.proofs.put_entries.Given as goal

abbrev pub invariant-loop-i : goal.invariant-loop-i
invariant-loop-i l = Placed l.book l.names l.count l.rounds l.t l.initial.out l.out l.w l.i
