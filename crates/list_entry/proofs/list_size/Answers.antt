-- `list_size` meets its contract. The loop's invariant: what is counted and what the candidates left take is all.
use Rattle.spec_limits.specs.Limits.{max_records}
use Rattle.list_entry.proofs.EntryLoops.{measure_start, measure_done, measure_fits, measure_next, measure_passed}
use borrow.Author.Rules.{rules}
use Rattle.list_entry.proofs.list_size.Goals as goal
use Rattle.list_entry.proofs.list_size.Goals.{then-round-t, else-round-t}

pub loop-i-init : goal.loop-i-init
loop-i-init c = search (rules, measure_start)

pub overflow_add-octets : goal.overflow_add-octets
unfolding max_records
overflow_add-octets c =
    measure_fits _ _ _ _ _ _ _ _ c.loop-i.invariant _ _ c.min.ensures c.min-i-end.ensures c.loop-i-test.true c.if-round-t.true _ c.candidate_at.ensures _ c.entry_length-octets.ensures

pub loop-i-preserved : goal.loop-i-preserved
unfolding max_records
loop-i-preserved c = elim c.if-round-t.branch [
  | then-round-t w ↦
      rw (w.kept-is, w.octets-is)
      (measure_next _ _ _ _ _ _ _ _ c.loop-i.invariant _ _ c.min.ensures c.min-i-end.ensures c.loop-i-test.true w.if-round-t.true _ w.candidate_at.ensures _ w.entry_length-octets.ensures)
  | else-round-t w ↦
      rw (w.kept-is, w.octets-is)
      (measure_passed _ _ _ _ _ _ _ _ c.loop-i.invariant _ _ c.min.ensures c.min-i-end.ensures c.loop-i-test.true w.if-round-t.false)
]

pub returns : goal.returns
unfolding max_records
returns c = search (rules, measure_done)
