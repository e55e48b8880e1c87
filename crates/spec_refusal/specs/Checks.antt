-- The result of a check: refused with the refusal that applies to the input, accepted if there is none.
use Rattle.std.specs.Prelude.{Option, None, Some, Result, Ok, Err}
use Rattle.spec_refusal.specs.declared.Refusal.{Refusal}

abbrev pub checked : Option Refusal → Result Unit Refusal
checked None = Ok tt
checked (Some r) = Err r
