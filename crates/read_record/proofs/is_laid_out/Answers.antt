-- `is_laid_out` meets its contract.
use borrow.Author.Rules.{rules}
use Rattle.read_record.proofs.RecordWays.{laid_out_as_caa, laid_out_as_alias, laid_out_anyhow}
use Rattle.read_record.proofs.is_laid_out.Goals as goal

pub returns-then-is_caa : goal.returns-then-is_caa
returns-then-is_caa c = search (rules, laid_out_as_caa)

pub returns-then-is_alias : goal.returns-then-is_alias
returns-then-is_alias c = search (rules, laid_out_as_alias)

pub returns-else-is_alias : goal.returns-else-is_alias
returns-else-is_alias c = search (rules, laid_out_anyhow)
