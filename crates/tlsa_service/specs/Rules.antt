-- Host, port and transport keep their rules. The length of the owner is not among these.
use Rattle.std.specs.Prelude.{ℕ, Bool, ◌&&◌, List}
use Rattle.spec_record.specs.Records.{is_some}
use Rattle.spec_tlsa.specs.Owners.{is_port, is_transport, host_name}

unfoldable pub keeps_rules : List ℕ → List ℕ → List ℕ → Bool
keeps_rules host port transport = is_some (host_name host) && (is_port port && is_transport transport)
