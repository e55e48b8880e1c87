-- What the definitions by offset say of records. The statement is proved under its name in proofs/.
use Rattle.std.specs.Prelude.{ℕ, ◌≡◌, ◌↔◌, true, List, Some}
use Rattle.spec_record.specs.Records.{Record, is_laid_out, resource_record}
use Rattle.read_record.specs.Places.{record_fields}

-- A record is read exactly when its fields are, and its data is well formed for its type and class.
abbrev pub FieldsAndData : Type 0
FieldsAndData =
    (s : List ℕ) (r : Record) (rest : List ℕ) →
    (resource_record s ≡ Some (r, rest)) ↔ ((record_fields s ≡ Some (r, rest)) × (is_laid_out r.type r.class r.rdata ≡ true))
