-- `key_of` meets its contract.
use borrow.Author.Rules.{rules}
use Rattle.spec_limits.specs.Limits.{max_records}
use Rattle.book_keys.proofs.Mixing.{key_told}
use Rattle.book_keys.proofs.key_of.Goals as goal

pub returns : goal.returns
unfolding max_records
returns c = search (rules, key_told)
