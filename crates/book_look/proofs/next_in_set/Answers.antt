-- `next_in_set` meets its contract.
use borrow.Author.Rules.{rules}
use Rattle.book_look.proofs.ChainWalk.{first_itself, with_its_owner}
use Rattle.book_look.proofs.next_in_set.Goals as goal

pub returns-then-is_caa_at : goal.returns-then-is_caa_at
returns-then-is_caa_at c = search (rules, first_itself)

pub returns : goal.returns
returns c = search (rules, with_its_owner)
