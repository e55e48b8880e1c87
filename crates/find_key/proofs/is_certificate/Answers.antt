-- `is_certificate` meets its contract.
use borrow.Author.Rules.{rules}
use Rattle.find_key.proofs.KeyWays.{found_or_not}
use Rattle.find_key.proofs.is_certificate.Goals as goal

pub returns : goal.returns
returns c = search (rules, found_or_not)
