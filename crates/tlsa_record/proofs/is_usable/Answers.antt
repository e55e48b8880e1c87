-- `is_usable` meets its contract.
use borrow.Author.Rules.{rules}
use Rattle.tlsa_record.proofs.DataTests.{malformed, all_known, some_unknown}
use Rattle.tlsa_record.proofs.is_usable.Goals as goal

pub returns-then-is_some-2 : goal.returns-then-is_some-2
returns-then-is_some-2 c = search (rules, all_known)

pub returns-else-is_some-2 : goal.returns-else-is_some-2
returns-else-is_some-2 c = search (rules, some_unknown)

pub returns-in-None : goal.returns-in-None
returns-in-None c = search (rules, malformed)
