-- `kept` meets its contract.
use borrow.Author.Rules.{rules}
use borrow.Author.Tests.{not-true, not-false}
use Rattle.session_check.proofs.HeldParts.{bad_issuer, bad_applicant, good_texts}
use Rattle.session_check.proofs.kept.Goals as goal

pub returns-then-not-is_issuer : goal.returns-then-not-is_issuer
returns-then-not-is_issuer c = search (rules, bad_issuer, not-true)

pub returns-in_err-ok : goal.returns-in_err-ok
returns-in_err-ok c = search (rules, bad_applicant, not-false)

pub returns : goal.returns
returns c = search (rules, good_texts, not-false)
