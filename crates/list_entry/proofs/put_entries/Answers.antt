-- `put_entries` meets its contract. The loop's invariant: the entries put, and behind them those of the candidates left, are all of them.
use Rattle.spec_limits.specs.Limits.{max_records}
use Rattle.list_entry.proofs.EntryLoops.{no_room, place_start, place_done, place_from, place_room, place_fits, place_next, place_passed}
use borrow.Author.Rules.{rules}
use Rattle.list_entry.proofs.put_entries.Goals as goal
use Rattle.list_entry.proofs.put_entries.Goals.{then-round-t, else-round-t}

pub returns-then-out-size : goal.returns-then-out-size
returns-then-out-size c = record { answer = search rules; octets = search (rules, no_room) }

pub loop-i-init : goal.loop-i-init
loop-i-init c = search (rules, place_start)

pub slice_bounds-put_entry-count : goal.slice_bounds-put_entry-count
unfolding max_records
slice_bounds-put_entry-count c =
    place_from _ _ _ _ _ _ _ _ _ c.loop-i.invariant _ _ c.min.ensures c.min-i-end.ensures c.loop-i-test.true c.if-round-t.true _ c.candidate_at.ensures

pub slice_bounds-put_entry-start : goal.slice_bounds-put_entry-start
unfolding max_records
slice_bounds-put_entry-start c =
    place_from _ _ _ _ _ _ _ _ _ c.loop-i.invariant _ _ c.min.ensures c.min-i-end.ensures c.loop-i-test.true c.if-round-t.true _ c.candidate_at.ensures

pub put_entry-w-requires : goal.put_entry-w-requires
unfolding max_records
put_entry-w-requires c =
    place_room _ _ _ _ _ _ _ _ _ c.loop-i.invariant _ _ c.min.ensures c.min-i-end.ensures c.loop-i-test.true c.if-round-t.true _ c.candidate_at.ensures

pub overflow_add-w : goal.overflow_add-w
unfolding max_records
overflow_add-w c =
    place_fits _ _ _ _ _ _ _ _ _ c.loop-i.invariant _ _ c.min.ensures c.min-i-end.ensures c.loop-i-test.true c.if-round-t.true _ c.candidate_at.ensures _ _ c.put_entry-w.ensures (search rules)

pub loop-i-preserved : goal.loop-i-preserved
unfolding max_records
loop-i-preserved c = elim c.if-round-t.branch [
  | then-round-t w ↦
      rw (w.out-is, w.w-is)
      (place_next _ _ _ _ _ _ _ _ _ c.loop-i.invariant _ _ c.min.ensures c.min-i-end.ensures c.loop-i-test.true w.if-round-t.true _ w.candidate_at.ensures _ _ w.put_entry-w.ensures (search rules))
  | else-round-t w ↦
      rw (w.out-is, w.w-is)
      (place_passed _ _ _ _ _ _ _ _ _ c.loop-i.invariant _ _ c.min.ensures c.min-i-end.ensures c.loop-i-test.true w.if-round-t.false)
]

pub returns : goal.returns
unfolding max_records
returns c = record { answer = search rules; octets = search (rules, place_done) }
