-- `is_target` meets its contract.
use borrow.Author.Rules.{rules}
use Rattle.read_record.proofs.RecordWays.{filled}
use Rattle.read_record.proofs.is_target.Goals as goal

pub returns : goal.returns
returns c = search (rules, filled)
