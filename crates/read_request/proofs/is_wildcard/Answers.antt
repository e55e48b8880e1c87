-- `is_wildcard` meets its contract.
use mathlib.Core.Path.{◌∙◌}
use Rattle.read_request.proofs.WildcardTests.{asterisk_tells}
use Rattle.read_request.proofs.is_wildcard.Goals as goal

pub returns : goal.returns
returns c n e = c.starts_with.ensures.value ∙ asterisk_tells c.args.name.now n e
