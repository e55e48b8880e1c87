-- The row of a record that is read: it is the row that the table has for it, and its numbers fit 16 bits.
use Rattle.std.specs.Prelude.{Option, Some}
use Prim.Native.Nat.{ℕ, ◌+◌, ◌-◌, ◌≤◌, ◌<◌}
use native.Mathlib.Omega.{arith}
use mathlib.Core.Path.{◌≡◌, sym, ap, ◌∙◌}
use mathlib.Core.List.{List}
use lib.ListN.{length, take, drop, get_or}
use mir.Syntax.{w8}
use mir.Val.{Fits}
use Rattle.spec_limits.specs.Limits.{max_book_octets}
use Rattle.spec_octets.specs.Reader.{value_from}
use Rattle.spec_octets.proofs.ReadAt.{two_octets_at}
use Rattle.spec_name.specs.Names.{wire}
use Rattle.spec_name.proofs.NameLaws.{fewer_labels}
use Rattle.spec_record.specs.Records.{Record, wire_record}
use Rattle.read_record.specs.Places.{fields_at}
use Rattle.read_record.specs.declared.RecordAt.{RecordAt}
use Rattle.read_record.proofs.RecordFields.{fields_read}
use Rattle.read_record.proofs.RecordPlaces.{RecordTo, data_long, fields_there}
use Rattle.book_places.specs.Table.{row}
use Rattle.book_places.proofs.StandingRecords.{ends}
use Rattle.book_fill.specs.Filled.{row_at, RowFits}

-- the limit of octets is a number of 16 bits
octets_fit : max_book_octets < 65536
unfolding max_book_octets
octets_fit = omega arith

module _ (book : List ℕ) (at : ℕ) (p : RecordAt) (r : Record) (t : RecordTo book at p r) where
  pub row_told : row_at at p ≡ row at r
  row_told =
      let begins : at + length (wire_record r) - length r.rdata ≡ p.rdata = omega (arith, ends book at p r t, data_long book at p r t, t.order) in
      let owner : p.owner_end - at ≡ length (wire r.owner) = omega (arith, t.owner.long) in
      rw (begins, owner, ← data_long book at p r t, t.type, t.class)

  module _ (octets : (i : ℕ) → Fits w8 (get_or book i 0)) (short : length book ≤ max_book_octets) where
    two_fit : (e : ℕ) → e + 2 ≤ length book → value_from 0 (take 2 (drop e book)) < 65536
    two_fit e h = rw (← two_octets_at book e h) (omega (arith, octets e, octets (e + 1)))

    fits : RowFits at p
    fits =
        let (whole, same, behind) = fields_read book at r.owner p.owner_end t.owner r (drop p.next book) t.found in
        let type : p.rtype ≡ value_from 0 (take 2 (drop p.owner_end book)) = t.type ∙ sym (ap (λ (r : Record). r.type) same) in
        let class : p.class ≡ value_from 0 (take 2 (drop (p.owner_end + 2) book)) = t.class ∙ sym (ap (λ (r : Record). r.class) same) in
        let ten : p.owner_end + 10 ≤ length book = omega (arith, t.ten, t.order, t.inside) in
        record {
          owner = omega (arith, fewer_labels r.owner, t.owner.long);
          fixed = omega (arith, t.ten);
          order = t.order;
          inside = omega (arith, t.inside, octets_fit);
          type = rw type (two_fit p.owner_end (omega arith));
          class = rw class (two_fit (p.owner_end + 2) (omega arith));
        }

pub row_fits :
    (book : List ℕ) (at : ℕ) (o : Option RecordAt) (p : RecordAt) → ((i : ℕ) → Fits w8 (get_or book i 0)) → length book ≤ max_book_octets →
    o ≡ fields_at book at → o ≡ Some p → RowFits at p
row_fits book at o p octets short f g = let (r, t) = fields_there book at o f p g in fits book at p r t octets short
