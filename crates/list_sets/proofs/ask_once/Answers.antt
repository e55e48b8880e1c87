-- `ask_once` meets its contract. The loop's invariant: the numbers that are left, behind those put at the front, give the same numbers.
use native.Mathlib.Omega.{arith}
use Rattle.spec_limits.specs.Limits.{max_records}
use Rattle.list_sets.proofs.AskedOnce.{ask_start, ask_length, done_answer, done_numbers, known, first_time, no_place}
use borrow.Author.Rules.{rules}
use Rattle.list_sets.proofs.ask_once.Goals as goal
use Rattle.list_sets.proofs.ask_once.Goals.{then-q-lt2048+else-asked-q, else-q-lt2048}

pub loop-i-init : goal.loop-i-init
unfolding max_records
loop-i-init c = search (rules, ask_start)

pub loop-i-preserved-then-asked-q : goal.loop-i-preserved-then-asked-q
loop-i-preserved-then-asked-q c = search (rules, known)

pub offset_bounds-numbers-w : goal.offset_bounds-numbers-w
offset_bounds-numbers-w c = omega (arith, c.loop-i.invariant.same_length, c.loop-i.invariant.few)

pub bounds-numbers-w : goal.bounds-numbers-w
bounds-numbers-w c = omega (arith, c.loop-i.invariant.same_length, c.loop-i.invariant.few)

pub overflow_add-w : goal.overflow_add-w
overflow_add-w c = omega (arith, c.loop-i.invariant.same_length, c.loop-i.invariant.few)

pub loop-i-preserved : goal.loop-i-preserved
unfolding max_records
loop-i-preserved c = elim c.if-q-lt2048.branch [
  | then-q-lt2048+else-asked-q w ↦ first_time _ _ _ _ _ c.loop-i.invariant (search rules) w.if-asked-q.false _ w.asked-is
  | else-q-lt2048 w ↦ no_place _ _ _ _ _ c.loop-i.invariant (search rules) w.if-q-lt2048.false _ w.asked-is
]

pub shape_of-numbers : goal.shape_of-numbers
shape_of-numbers c = search (rules, ask_length)

pub returns : goal.returns
returns c =
    record {
      answer = done_answer _ _ _ _ _ c.loop-i.invariant (omega (arith, c.loop-i.invariant.same_length));
      numbers = done_numbers _ _ _ _ _ c.loop-i.invariant (omega (arith, c.loop-i.invariant.same_length));
    }
