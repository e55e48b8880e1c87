-- `is_port` meets its contract. The loop's invariant: the number so far and the digits left give the answer.
use Prim.Native.Nat.{◌≤◌}
use mathlib.Core.Path.{◌≡◌}
use lib.ListN.{drop}
use Rattle.spec_tlsa.specs.Owners.{is_port}
use Rattle.tlsa_service.proofs.PortWalk.{port_left}
use Rattle.tlsa_service.proofs.is_port.Given as goal

abbrev pub invariant-loop-b : goal.invariant-loop-b
invariant-loop-b l = (l.n ≤ 65535) × (is_port l.port ≡ port_left l.n (drop l.b-index l.port))
