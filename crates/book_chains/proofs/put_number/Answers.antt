-- `put_number` meets its contract.
use borrow.Author.Rules.{rules}
use Rattle.book_chains.proofs.Linking.{no_place}
use Rattle.book_chains.proofs.put_number.Goals as goal

pub returns-else-at-xs : goal.returns-else-at-xs
returns-else-at-xs c = search (rules, no_place)
