-- `is_host` meets its contract.
use borrow.Author.Rules.{rules}
use Rattle.tlsa_service.proofs.ServiceTests.{no_name, wildcard_name, whole_name}
use Rattle.tlsa_service.proofs.is_host.Goals as goal

pub returns-then-not-n : goal.returns-then-not-n
returns-then-not-n c = search (rules, whole_name)

pub returns-else-not-n : goal.returns-else-not-n
returns-else-not-n c = search (rules, wildcard_name)

pub returns-in-None : goal.returns-in-None
returns-in-None c = search (rules, no_name)
