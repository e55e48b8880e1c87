-- `fail` meets its contract.
use borrow.Author.Rules.{rules}
use borrow.Author.Tests.{not-true, not-false}
use Rattle.session_step.proofs.StepLaws.{fails_not, fails_so}
use Rattle.session_step.proofs.fail.Goals as goal

pub returns-then-not-is_asking : goal.returns-then-not-is_asking
returns-then-not-is_asking c = search (rules, fails_not, not-true)

pub returns : goal.returns
returns c = search (rules, fails_so, not-false)
