-- `count_zeros` meets its contract.
use borrow.Author.Rules.{rules}
use Rattle.digest_padding.proofs.PaddingWrites.{zeros_counted}
use Rattle.digest_padding.proofs.count_zeros.Goals as goal

pub returns : goal.returns
returns g c = search (rules, zeros_counted)
