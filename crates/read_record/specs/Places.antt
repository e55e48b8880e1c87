-- The same definitions over offsets, for code that walks a slice: `record_at s at` is about the octets of `s` from offset `at` on.
use Rattle.read_record.specs.declared.RecordAt.{RecordAt}
use Rattle.std.specs.Prelude.{ℕ, ◌+◌, ◌-◌, List, length, drop, Option, None, Some}
use Rattle.spec_octets.specs.Reader.{Reader, pure, ◌>>=◌, octets, number, place_of}
use Rattle.spec_name.specs.Names.{wire, name}
use Rattle.spec_record.specs.Records.{Record, resource_record}

-- The record ends where the remaining octets begin, and so does its data.
abbrev pub record_places : List ℕ → ℕ → Option (Record × List ℕ) → Option RecordAt
record_places s at None = None
record_places s at (Some r) =
    Some (record {
      owner_end = at + length (wire r.0.owner);
      rtype = r.0.type;
      class = r.0.class;
      rdata = place_of s r.1 - length r.0.rdata;
      next = place_of s r.1;
    })

-- The fields of a record, whatever its data holds.
unfoldable pub record_fields : Reader Record
record_fields = do
  owner ← name
  type ← number 2
  class ← number 2
  ttl ← number 4
  n ← number 2
  d ← octets n
  pure (record { owner = owner; type = type; class = class; ttl = ttl; rdata = d })

-- The record that begins at offset `at`, by its fields alone.
unfoldable pub fields_at : List ℕ → ℕ → Option RecordAt
fields_at s at = record_places s at (record_fields (drop at s))

-- The record that begins at offset `at`.
unfoldable pub record_at : List ℕ → ℕ → Option RecordAt
record_at s at = record_places s at (resource_record (drop at s))
