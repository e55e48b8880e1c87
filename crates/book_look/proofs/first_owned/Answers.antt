-- `first_owned` meets its contract.
use borrow.Author.Rules.{rules}
use Rattle.book_look.proofs.ChainWalk.{no_chain, chain_begins}
use Rattle.book_look.proofs.first_owned.Goals as goal

pub returns-in_err-head : goal.returns-in_err-head
returns-in_err-head c = search (rules, no_chain)

pub returns : goal.returns
returns c = search (rules, chain_begins)
