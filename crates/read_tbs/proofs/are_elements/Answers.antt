-- `are_elements` meets its contract. The loop's invariant: the octets from p on are elements exactly when those from `at` on are.
use borrow.Author.Rules.{rules}
use Rattle.read_tbs.proofs.ElementWalk.{elements_broken, less_left, elements_on, elements_end}
use Rattle.read_tbs.proofs.are_elements.Goals as goal

pub returns-in_default : goal.returns-in_default
returns-in_default c = search (rules, elements_broken)

pub loop-p-smaller : goal.loop-p-smaller
loop-p-smaller c = search (rules, less_left)

pub loop-p-preserved : goal.loop-p-preserved
loop-p-preserved c = search (rules, elements_on)

pub returns : goal.returns
returns c = search (rules, elements_end)
