-- What the offsets of a record say about the record read there, for code that walks a slice by them.
use Rattle.std.specs.Prelude.{Option, None, Some}
use Prim.Native.Nat.{ℕ, ◌≤◌, ◌<◌, ◌+◌, ◌-◌}
use native.Mathlib.Omega.{arith}
use mathlib.Core.Path.{◌≡◌, refl, sym, ap, ◌∙◌}
use mathlib.Core.Logic.{◌↔◌, ◌≢◌}
use mathlib.Core.List.{List}
use lib.ListN.{length, take, drop, length-drop}
use lib.Seq.{length-take-le}
use Rattle.spec_octets.proofs.ReaderLaws.{fault_told, bind_some}
use Rattle.spec_name.specs.Names.{Name, name, wire}
use Rattle.spec_name.proofs.NameLaws.{fewer_labels}
use Rattle.read_name.proofs.PlaceLaws.{NameTo, name_to}
use Rattle.read_record.specs.declared.RecordAt.{RecordAt}
use Rattle.spec_record.specs.Records.{Record, resource_record}
use Rattle.read_record.specs.Places.{record_places, record_fields, fields_at, record_at}
use Rattle.read_record.proofs.RecordFields.{data_length, record_from, places_from, Whole, fields_read, fields_stand}
use Rattle.read_record.proofs.FieldsAndData.{fields_and_data}

module _ (s : List ℕ) (at : ℕ) where
  -- p says where the parts of the record r stand in s
  pub record RecordTo (p : RecordAt) (r : Record) : Type 0 where
    pub found : record_fields (drop at s) ≡ Some (r, drop p.next s)
    pub owner : NameTo s at p.owner_end r.owner
    pub type : p.rtype ≡ r.type
    pub class : p.class ≡ r.class
    pub rdata : take (p.next - p.rdata) (drop p.rdata s) ≡ r.rdata
    pub ten : p.rdata ≡ p.owner_end + 10
    pub order : p.rdata ≤ p.next
    pub inside : p.next ≤ length s

  module _ (p : RecordAt) (r : Record) (t : RecordTo p r) where
    pub data_long : length r.rdata ≡ p.next - p.rdata
    data_long = sym (ap length t.rdata) ∙ length-take-le (p.next - p.rdata) (drop p.rdata s) (omega (arith, length-drop p.rdata s, t.inside))

    pub fields_at_lem : fields_at s at ≡ Some p
    unfolding fields_at
    fields_at_lem =
        let next : length s - length (drop p.next s) ≡ p.next = omega (arith, length-drop p.next s, t.inside) in
        let begins : p.next - length r.rdata ≡ p.rdata = omega (arith, data_long, t.order) in
        rw (t.found, next, begins, ← t.owner.long, ← t.type, ← t.class)

  module _ (owner : Name) (e : ℕ) (k : NameTo s at e owner) (w : Whole s e) where
    pub record_to : RecordTo (places_from s e) (record_from s owner e)
    record_to =
        let long : e + 10 + data_length s e - (e + 10) ≡ data_length s e = omega arith in
        record {
          found = fields_stand s at owner e k w;
          owner = k;
          type = refl;
          class = refl;
          rdata = rw long;
          ten = refl;
          order = omega arith;
          inside = omega (arith, k.inside);
        }

  pub fields_places : (p : RecordAt) → (fields_at s at ≡ Some p) ↔ ((r : Record) × RecordTo p r)
  unfolding fields_at record_fields
  fields_places p = (go (record_fields (drop at s)) refl, λ k. fields_at_lem p k.0 k.1)
    where
      to : (owner : Name) (e : ℕ) (k : NameTo s at e owner) → Whole s e → fields_at s at ≡ Some p → (r : Record) × RecordTo p r
      to owner e k w g =
          let there = record_to owner e k w in
          let same : places_from s e ≡ p = cc (fields_at_lem (places_from s e) (record_from s owner e) there) in
          (record_from s owner e, rw same at there)

      go : (o : Option (Record × List ℕ)) → record_fields (drop at s) ≡ o → fields_at s at ≡ Some p → (r : Record) × RecordTo p r
      go None h g = let z : ◌≡◌ {A = ℕ} 0 1 = cc in absurd (omega arith)
      go (Some x) h g =
          let (owner, mid, found, rest) = (bind_some name _ (drop at s) x.0 x.1).0 h in
          let k = name_to s at owner mid found in
          to owner (at + length (wire owner)) k (fields_read s at owner (at + length (wire owner)) k x.0 x.1 h).0 g

  apart : (r : Record × List ℕ) → record_places s at (Some r) ≢ record_places s at None
  apart r e = let z : ◌≡◌ {A = ℕ} 0 1 = cc in omega arith

  pub fields_faults : (fields_at s at ≡ None) ↔ (record_fields (drop at s) ≡ None)
  unfolding fields_at
  fields_faults = fault_told (record_places s at) (record_fields (drop at s)) apart

  pub record_faults : (record_at s at ≡ None) ↔ (resource_record (drop at s) ≡ None)
  unfolding record_at
  record_faults = fault_told (record_places s at) (resource_record (drop at s)) apart

  -- what a caller of read_record_fields knows
  module _ (o : Option RecordAt) (f : o ≡ fields_at s at) where
    pub no_fields : o ≡ None → record_fields (drop at s) ≡ None
    no_fields g = fields_faults.0 (cc)

    module _ (p : RecordAt) (g : o ≡ Some p) where
      pub fields_there : (r : Record) × RecordTo p r
      fields_there = (fields_places p).0 (cc)

      pub data_before : p.rdata ≤ p.next
      data_before = fields_there.1.order

      pub data_inside : p.next ≤ length s
      data_inside = fields_there.1.inside

  -- what a caller of read_record knows
  module _ (o : Option RecordAt) (f : o ≡ record_at s at) where
    pub no_record_lem : o ≡ None → resource_record (drop at s) ≡ None
    no_record_lem g = record_faults.0 (cc)

    module _ (p : RecordAt) (g : o ≡ Some p) where
      pub record_there : (r : Record) × RecordTo p r × (resource_record (drop at s) ≡ Some (r, drop p.next s))
      unfolding record_at fields_at
      record_there = go (resource_record (drop at s)) refl
        where
          go :
              (x : Option (Record × List ℕ)) → resource_record (drop at s) ≡ x →
              (r : Record) × RecordTo p r × (resource_record (drop at s) ≡ Some (r, drop p.next s))
          go None h = let z : ◌≡◌ {A = ℕ} 0 1 = cc in absurd (omega arith)
          go (Some x) h =
              let fields = ((fields_and_data (drop at s) x.0 x.1).0 h).0 in
              let (r, t) = (fields_places p).0 (rw fields (rw h at (sym f ∙ g))) in
              (r, t, h ∙ sym fields ∙ t.found)

      pub record_after : at < p.next
      record_after = let (r, t, e) = record_there in omega (arith, fewer_labels r.owner, t.owner.long)
