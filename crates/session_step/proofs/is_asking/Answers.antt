-- `is_asking` meets its contract.
use borrow.Author.Rules.{rules}
use Rattle.session_step.proofs.StepLaws.{other_phase, by_texts}
use Rattle.session_step.proofs.is_asking.Goals as goal

pub returns-then-session-eq-ASKING : goal.returns-then-session-eq-ASKING
returns-then-session-eq-ASKING c = search (rules, by_texts)

pub returns-else-session-eq-ASKING : goal.returns-else-session-eq-ASKING
returns-else-session-eq-ASKING c = search (rules, other_phase)
