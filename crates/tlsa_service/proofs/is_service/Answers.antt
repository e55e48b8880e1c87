-- `is_service` meets its contract.
use borrow.Author.Rules.{rules}
use mathlib.Core.Bool.{true≢false}
use mathlib.Core.Path.{sym, ◌∙◌}
use Rattle.tlsa_service.proofs.ServiceTests.{not_host, not_port, by_transport}
use Rattle.tlsa_service.proofs.is_service.Goals as goal
use Rattle.tlsa_service.proofs.is_service.Goals.{then-is_host, else-is_host}

pub returns-then-is_port : goal.returns-then-is_port
returns-then-is_port c =
    elim c.if-is_host.branch [
      | then-is_host w ↦ search (rules, by_transport)
      | else-is_host w ↦ absurd (true≢false (sym c.if-is_port.true ∙ w.value-is ∙ w.if-is_host.false))
    ]

pub returns-else-is_port : goal.returns-else-is_port
returns-else-is_port c =
    elim c.if-is_host.branch [ then-is_host w ↦ search (rules, not_port) | else-is_host w ↦ search (rules, not_host) ]
