-- `mixed` meets its contract. The loop's invariant: what is left, mixed with the number reached, gives the same.
use borrow.Author.Rules.{rules}
use Rattle.book_keys.proofs.Mixing.{mixed_on, mixed_end}
use Rattle.book_keys.proofs.mixed.Goals as goal

pub loop-octet-preserved : goal.loop-octet-preserved
loop-octet-preserved c = search (rules, mixed_on)

pub returns : goal.returns
returns c = search (rules, mixed_end)
