-- `is_method` meets its contract.
use borrow.Author.Rules.{rules}
use Rattle.read_applicant.proofs.ApplicantTests.{no_account, method_by_comma}
use Rattle.read_applicant.proofs.is_method.Goals as goal

pub returns-then-is_account : goal.returns-then-is_account
returns-then-is_account c = search (rules, method_by_comma)

pub returns-else-is_account : goal.returns-else-is_account
returns-else-is_account c = search (rules, no_account)
