-- `two_octets` meets its contract.
use borrow.Author.Rules.{rules}
use Rattle.spec_octets.proofs.ReadAt.{two_octets_at}
use Rattle.read_record.proofs.two_octets.Goals as goal

pub returns : goal.returns
returns c = search (rules, two_octets_at)
