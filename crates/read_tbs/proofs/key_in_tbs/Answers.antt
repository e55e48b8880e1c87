-- `key_in_tbs` meets its contract: a law for each return.
use borrow.Author.Rules.{rules}
use mathlib.Core.Path.{◌∙◌}
use Rattle.read_tbs.proofs.TbsWalk.{no_signature, no_issuer, no_validity, no_subject, no_from, no_to, key_read, others_broken}
use Rattle.read_tbs.proofs.key_in_tbs.Goals as goal

pub returns-in_err-signature : goal.returns-in_err-signature
returns-in_err-signature c = search (rules, no_signature)

pub returns-in_err-issuer : goal.returns-in_err-issuer
returns-in_err-issuer c = search (rules, no_issuer)

pub returns-in_err-validity : goal.returns-in_err-validity
returns-in_err-validity c = search (rules, no_validity)

pub returns-in_err-subject : goal.returns-in_err-subject
returns-in_err-subject c = search (rules, no_subject)

pub returns-in_err-from : goal.returns-in_err-from
returns-in_err-from c =
    c.from_residual-in_err-from.ensures ∙ no_from c.args.s.now _ c.past_version-serial.ensures _ c.in_ok-signature.ensures _ c.in_ok-issuer.ensures _ c.in_ok-validity.ensures _ c.in_ok-subject.ensures c.in_err-from.ensures

pub returns-in_err-to : goal.returns-in_err-to
returns-in_err-to c =
    c.from_residual-in_err-to.ensures ∙ no_to c.args.s.now _ c.past_version-serial.ensures _ c.in_ok-signature.ensures _ c.in_ok-issuer.ensures _ c.in_ok-validity.ensures _ c.in_ok-subject.ensures _ c.in_ok-from.ensures c.in_err-to.ensures

pub returns-then-are_elements : goal.returns-then-are_elements
returns-then-are_elements c =
    key_read c.args.s.now _ c.past_version-serial.ensures _ c.in_ok-signature.ensures _ c.in_ok-issuer.ensures _ c.in_ok-validity.ensures _ c.in_ok-subject.ensures _ c.in_ok-from.ensures _ c.in_ok-to.ensures c.if-are_elements.ensures

pub returns-else-are_elements : goal.returns-else-are_elements
returns-else-are_elements c =
    others_broken c.args.s.now _ c.past_version-serial.ensures _ c.in_ok-signature.ensures _ c.in_ok-issuer.ensures _ c.in_ok-validity.ensures _ c.in_ok-subject.ensures _ c.in_ok-from.ensures _ c.in_ok-to.ensures c.if-are_elements.ensures
