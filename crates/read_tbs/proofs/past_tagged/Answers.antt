-- `past_tagged` meets its contract.
use borrow.Author.Rules.{rules}
use Rattle.read_tbs.proofs.PastLaws.{no_tagged_past, tagged_past}
use Rattle.read_tbs.proofs.past_tagged.Goals as goal

pub returns-in_err-t : goal.returns-in_err-t
returns-in_err-t c = search (rules, no_tagged_past)

pub returns : goal.returns
returns c = search (rules, tagged_past)
