-- `first_with_tag` meets its contract. The loop's invariant: the first is that of the records that are left.
use borrow.Author.Rules.{rules}
use Rattle.book_places.specs.Sets.{data_has_tag}
use Rattle.book_places.proofs.OwnedWalk.{fewer_left}
use Rattle.book_set.proofs.SetLaws.{first_start, first_passed, none_tagged, tagged_first}
use Rattle.book_set.proofs.first_with_tag.Goals as goal

pub loop-r-init : goal.loop-r-init
loop-r-init c = search (rules, first_start)

pub returns-in_err-r : goal.returns-in_err-r
returns-in_err-r c = search (rules, none_tagged)

pub returns-then-has_tag : goal.returns-then-has_tag
returns-then-has_tag c = search (rules, tagged_first)

pub loop-r-smaller : goal.loop-r-smaller
loop-r-smaller c = search (rules, fewer_left)

pub loop-r-preserved : goal.loop-r-preserved
loop-r-preserved c = search (rules, first_passed (data_has_tag c.args.tag))
