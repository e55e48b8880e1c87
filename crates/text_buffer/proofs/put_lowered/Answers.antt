-- `put_lowered` meets its contract.
use Rattle.std.proofs.Common.{rules}
use Rattle.text_buffer.proofs.Lowered.{lowered_there}
use Rattle.text_buffer.proofs.put_lowered.Goals as goal

pub returns-clause-octets : goal.returns-clause-octets
returns-clause-octets c = search (rules, lowered_there)
