-- A round-trip theorem doesn't fix a format: change reader and writer together, and it still holds. So each format is also spelled out by
-- an equation. Each is proved under its name in proofs/.
use Rattle.std.specs.Prelude.{◌≡◌, ◌∷◌, ◌++◌, length}
use Rattle.spec_record.specs.Property.{Property, wire_property}
use Rattle.spec_octets.specs.Reader.{in_octets}
use Rattle.spec_name.specs.Names.{wire}
use Rattle.spec_record.specs.Records.{Record, wire_record}

-- RFC 8659 section 4.1: flags, tag length, tag and value.
abbrev pub PropertyForm : Type 0
PropertyForm = (p : Property) → wire_property p ≡ p.flags ∷ length p.tag ∷ (p.tag ++ p.value)

-- RFC 1035 section 3.2.1: owner, type and class (2 octets each), time to live (4), data length (2), data.
abbrev pub RecordForm : Type 0
RecordForm =
    (r : Record) →
    wire_record r
    ≡ wire r.owner ++ in_octets 2 r.type ++ in_octets 2 r.class ++ in_octets 4 r.ttl ++ in_octets 2 (length r.rdata) ++ r.rdata
