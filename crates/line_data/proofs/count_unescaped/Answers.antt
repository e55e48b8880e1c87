-- `count_unescaped` meets its contract. The loop's invariant: the count so far and the remaining written octets give the result.
use borrow.Author.Rules.{rules}
use mathlib.Core.Path.{refl}
use Rattle.std.specs.Prelude.{Some}
use Rattle.line_octet.proofs.UnitWalk.{unit_less}
use Rattle.line_data.proofs.UnitLoops.{count_start, count_fault, count_turn, count_end}
use Rattle.line_data.proofs.count_unescaped.Goals as goal

pub loop-at-init : goal.loop-at-init
loop-at-init c = search (rules, count_start)

pub returns-in_err-u : goal.returns-in_err-u
returns-in_err-u c = search (rules, count_fault)

pub loop-at-smaller : goal.loop-at-smaller
loop-at-smaller c = search (rules, unit_less)

pub loop-at-preserved : goal.loop-at-preserved
loop-at-preserved c = count_turn c.loop-at.invariant (Some c.in_ok-u.u) c.loop-at-test.true c.in_ok-u.ensures c.in_ok-u.u refl

pub returns : goal.returns
returns c = search (rules, count_end)
