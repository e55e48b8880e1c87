-- `first_unknown_critical` meets its contract. The loop's invariant: the first is that of the records that are left.
use borrow.Author.Rules.{rules}
use Rattle.book_places.specs.Sets.{data_is_unknown_critical}
use Rattle.book_places.proofs.OwnedWalk.{fewer_left}
use Rattle.book_set.proofs.SetLaws.{first_start, first_passed, none_critical, critical_first}
use Rattle.book_set.proofs.first_unknown_critical.Goals as goal

pub loop-r-init : goal.loop-r-init
loop-r-init c = search (rules, first_start data_is_unknown_critical)

pub returns-in_err-r : goal.returns-in_err-r
returns-in_err-r c = search (rules, none_critical)

pub loop-r-smaller : goal.loop-r-smaller
loop-r-smaller c = search (rules, fewer_left)

pub loop-r-preserved : goal.loop-r-preserved
loop-r-preserved c = search (rules, first_passed data_is_unknown_critical)

pub returns : goal.returns
returns c = search (rules, critical_first)
