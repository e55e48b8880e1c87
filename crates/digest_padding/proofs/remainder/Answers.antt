-- `remainder` meets its contract.
use native.Mathlib.Nat.{mod-le}
use borrow.Author.Rules.{rules}
use Rattle.digest_padding.proofs.PaddingWrites.{remainder_below}
use Rattle.digest_padding.proofs.remainder.Goals as goal

pub returns : goal.returns
returns g c = search (rules, remainder_below, mod-le)
