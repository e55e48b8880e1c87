-- `next_owned` meets its contract. The loop's invariant: the first record of the owner is the same from the record reached.
use borrow.Author.Rules.{rules}
use Rattle.book_look.proofs.ChainWalk.{none_owned, one_owned, passed_over, less_left}
use Rattle.book_look.proofs.next_owned.Goals as goal

pub returns-then-is_owned : goal.returns-then-is_owned
returns-then-is_owned c = search (rules, one_owned)

pub loop-i-smaller : goal.loop-i-smaller
loop-i-smaller c = search (rules, less_left)

pub loop-i-preserved : goal.loop-i-preserved
loop-i-preserved c = search (rules, passed_over)

pub returns : goal.returns
returns c = search (rules, none_owned)
