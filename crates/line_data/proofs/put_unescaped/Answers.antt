-- `put_unescaped` meets its contract. The loop's invariant: the octets written, and those of the remaining written octets, are the value.
use borrow.Author.Rules.{rules}
use Rattle.line_octet.proofs.UnitWalk.{unit_less}
use Rattle.line_data.proofs.UnitLoops.{fill_fits, fill_start, fill_fault, fill_room, fill_turn, fill_end}
use Rattle.line_data.proofs.put_unescaped.Goals as goal

pub loop-at-init : goal.loop-at-init
loop-at-init c = search (rules, fill_start)

pub returns-in_default : goal.returns-in_default
returns-in_default c = search (rules, fill_fault)

pub bounds-out-w : goal.bounds-out-w
bounds-out-w c = search (rules, fill_room)

pub overflow_add-w : goal.overflow_add-w
overflow_add-w c = search (rules, fill_fits)

pub loop-at-smaller : goal.loop-at-smaller
loop-at-smaller c = search (rules, unit_less)

pub loop-at-preserved : goal.loop-at-preserved
loop-at-preserved c = search (rules, fill_turn)

pub returns : goal.returns
returns c = search (rules, fill_end)
