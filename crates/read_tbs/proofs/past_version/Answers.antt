-- `past_version` meets its contract.
use borrow.Author.Rules.{rules}
use Rattle.read_tbs.proofs.PastLaws.{no_version, version_past}
use Rattle.read_tbs.proofs.past_version.Goals as goal

pub returns-in-Some : goal.returns-in-Some
returns-in-Some c = search (rules, version_past)

pub returns-in-None : goal.returns-in-None
returns-in-None c = search (rules, no_version)
