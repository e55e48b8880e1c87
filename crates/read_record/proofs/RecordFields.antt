-- The fields of a record at their offsets after the owner.
use Rattle.std.specs.Prelude.{Some}
use Prim.Native.Nat.{ℕ, ◌≤◌, ◌+◌, ◌-◌}
use native.Mathlib.Omega.{arith}
use mathlib.Core.Path.{◌≡◌, refl}
use mathlib.Core.List.{List}
use lib.ListN.{length, take, drop}
use Rattle.spec_octets.specs.Reader.{value_from}
use Rattle.spec_octets.proofs.ReaderLaws.{pure_some}
use Rattle.spec_octets.proofs.ReadAt.{octets_then, number_then}
use Rattle.spec_name.specs.Names.{Name}
use Rattle.read_name.proofs.PlaceLaws.{NameTo}
use Rattle.read_record.specs.declared.RecordAt.{RecordAt}
use Rattle.spec_record.specs.Records.{Record}
use Rattle.read_record.specs.Places.{record_fields}

module _ (s : List ℕ) where
  -- of a record whose owner ends at e, as its fields stand there: the length of its data, the record, its places
  abbrev pub data_length : ℕ → ℕ
  data_length e = value_from 0 (take 2 (drop (e + 8) s))

  abbrev pub record_from : Name → ℕ → Record
  record_from owner e = record {
    owner = owner;
    type = value_from 0 (take 2 (drop e s));
    class = value_from 0 (take 2 (drop (e + 2) s));
    ttl = value_from 0 (take 4 (drop (e + 4) s));
    rdata = take (data_length e) (drop (e + 10) s);
  }

  abbrev pub places_from : ℕ → RecordAt
  places_from e = record {
    owner_end = e;
    rtype = value_from 0 (take 2 (drop e s));
    class = value_from 0 (take 2 (drop (e + 2) s));
    rdata = e + 10;
    next = e + 10 + data_length e;
  }

  -- it stands there whole
  pub record Whole (e : ℕ) : Type 0 where
    pub fixed : 10 ≤ length s - e
    pub data_fits : data_length e ≤ length s - (e + 10)

  module _ (at : ℕ) (owner : Name) (e : ℕ) (k : NameTo s at e owner) where
    abbrev pub here : Record
    here = record_from owner e

    pub fields_read :
        (r : Record) (rest : List ℕ) → record_fields (drop at s) ≡ Some (r, rest) →
        Whole e × (here ≡ r) × (drop (e + 10 + data_length e) s ≡ rest)
    unfolding record_fields
    fields_read r rest h =
        let (l₁, r₁) = (number_then 2 s e (e + 2) refl _).0 (rw k.found at h) in
        let (l₂, r₂) = (number_then 2 s (e + 2) (e + 4) (omega arith) _).0 r₁ in
        let (l₃, r₃) = (number_then 4 s (e + 4) (e + 8) (omega arith) _).0 r₂ in
        let (l₄, r₄) = (number_then 2 s (e + 8) (e + 10) (omega arith) _).0 r₃ in
        let (l₅, r₅) = (octets_then (data_length e) s (e + 10) (e + 10 + data_length e) refl _).0 r₄ in
        let (f, g) = (pure_some here r (drop (e + 10 + data_length e) s) rest).0 r₅ in
        (record { fixed = omega arith; data_fits = l₅ }, f, g)

    pub fields_stand : Whole e → record_fields (drop at s) ≡ Some (here, drop (e + 10 + data_length e) s)
    unfolding record_fields
    fields_stand w =
        rw k.found
        ((number_then 2 s e (e + 2) refl _).1 (
          omega arith,
          (number_then 2 s (e + 2) (e + 4) (omega arith) _).1 (
            omega arith,
            (number_then 4 s (e + 4) (e + 8) (omega arith) _).1 (
              omega arith,
              (number_then 2 s (e + 8) (e + 10) (omega arith) _).1 (
                omega arith,
                (octets_then (data_length e) s (e + 10) (e + 10 + data_length e) refl _).1 (w.data_fits, refl),
              ),
            ),
          ),
        ))
