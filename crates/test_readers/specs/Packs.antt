-- The results of the readers, packed into numbers.
use Rattle.read_request.specs.declared.Requested.{Requested}
use Rattle.read_record.specs.declared.RecordAt.{RecordAt}
use Rattle.read_property.specs.declared.PropertyAt.{PropertyAt}
use Rattle.std.specs.Prelude.{ℕ, Bool, true, false, cond, Option, Some, None}
use Rattle.spec_packed.specs.Packed.{packed}
use Rattle.spec_record.specs.declared.PropertyTag.{PropertyTag}
use Rattle.spec_record.specs.declared.PropertyTag.TheVariants.{Issue, IssueWild, Iodef, Unknown}
use Rattle.read_value.specs.declared.ValueRead.{ValueRead}
use Rattle.read_value.specs.declared.ValueRead.TheVariants.{Malformed, Nameless, Named}

abbrev pub packed_bool : Bool → ℕ
packed_bool true = 1
packed_bool false = 0

abbrev pub packed_end : Option ℕ → ℕ
packed_end (Some e) = packed 1 e 0 0
packed_end None = 0

abbrev pub packed_requested : Option Requested → ℕ
packed_requested (Some n) = packed (cond n.wildcard 2 1) n.next n.base 0
packed_requested None = 0

abbrev pub packed_property : Option PropertyAt → ℕ
packed_property (Some p) = packed 1 p.value p.flags 0
packed_property None = 0

abbrev pub packed_tag : PropertyTag → ℕ
packed_tag Unknown = 0
packed_tag Issue = 1
packed_tag IssueWild = 2
packed_tag Iodef = 3

abbrev pub packed_record : Option RecordAt → ℕ
packed_record (Some r) = packed 1 r.next r.owner_end r.rdata
packed_record None = 0

abbrev pub packed_value : ValueRead → ℕ
packed_value Malformed = 0
packed_value Nameless = 1
packed_value (Named n) = packed 2 n.to n.from 0
