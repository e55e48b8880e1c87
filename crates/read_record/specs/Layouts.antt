-- What checking the records of a book says: its refusal by rows 5 to 7, or whether there is an alias among the records.
use Rattle.std.specs.Prelude.{ℕ, Bool, List, Option, None, Some, Result, Ok, Err}
use Rattle.spec_refusal.specs.declared.Refusal.{Refusal}
use Rattle.spec_octets.specs.Lists.{any}
use Rattle.spec_record.specs.Records.{Record, is_alias, records, layout_refusal}

abbrev pub is_alias_record : Record → Bool
is_alias_record r = is_alias r.type r.class

abbrev pub layout_told : Option Refusal → Bool → Result Bool Refusal
layout_told None aliased = Ok aliased
layout_told (Some r) aliased = Err r

unfoldable pub layout_of : List ℕ → Result Bool Refusal
layout_of b = layout_told (layout_refusal b) (any is_alias_record (records b))
