-- `entry_length` meets its contract.
use Rattle.list_entry.proofs.EntryLoops.{no_length, one_length}
use borrow.Author.Rules.{rules}
use Rattle.list_entry.proofs.entry_length.Goals as goal

pub returns-then-name-lt256 : goal.returns-then-name-lt256
returns-then-name-lt256 c = search (rules, one_length)

pub returns-else-name-lt256 : goal.returns-else-name-lt256
returns-else-name-lt256 c = search (rules, no_length)
