-- `pack_step` meets its contract.
use borrow.Author.Rules.{rules}
use Rattle.session_words.proofs.PackedSteps.{step_packed}
use Rattle.session_words.proofs.pack_step.Goals as goal

pub returns : goal.returns
returns c = search (rules, step_packed)
