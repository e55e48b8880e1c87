-- `is_transport` meets its contract.
use borrow.Author.Rules.{rules}
use mathlib.Core.Bool.{false≢true}
use mathlib.Core.Path.{sym, ◌∙◌}
use Rattle.tlsa_service.proofs.ServiceTests.{is_tcp, is_udp, is_sctp}
use Rattle.tlsa_service.proofs.is_transport.Goals as goal
use Rattle.tlsa_service.proofs.is_transport.Goals.{then-is_same, else-is_same}

pub returns-then-is_same-2 : goal.returns-then-is_same-2
returns-then-is_same-2 c =
    elim c.if-is_same.branch [ then-is_same w ↦ search (rules, is_tcp) | else-is_same w ↦ search (rules, is_udp) ]

pub returns-else-is_same-2 : goal.returns-else-is_same-2
returns-else-is_same-2 c =
    elim c.if-is_same.branch [
      | then-is_same w ↦ absurd (false≢true (sym c.if-is_same-2.false ∙ w.value-is ∙ w.if-is_same.true))
      | else-is_same w ↦ search (rules, is_sctp)
    ]
