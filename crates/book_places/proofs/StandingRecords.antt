-- The records whose fields can be read stand in the book end to end, and each has its parts where a row of the table says.
use Rattle.std.specs.Prelude.{Option, None, Some}
use Prim.Native.Nat.{ℕ, zero, suc, ◌+◌, ◌-◌, ◌*◌, ◌≤◌, ◌<◌}
use native.Mathlib.Omega.{arith}
use mathlib.Core.Path.{◌≡◌, refl, subst}
use mathlib.Core.Logic.{⊎_elim}
use mathlib.Core.Bool.{Bool, true, false, cond}
use mathlib.Core.List.{List, [], ◌∷◌}
use lib.Dec.{leb}
use lib.ListN.{length, drop, length-append}
use borrow.Author.Tests.{le-leb, lt-leb, leb-true}
use Rattle.spec_limits.specs.Limits.{max_book_octets, max_records}
use Rattle.spec_octets.proofs.ListLaws.{true_or_false}
use Rattle.spec_octets.proofs.ReaderLaws.{bind_some}
use Rattle.spec_name.specs.Names.{name, wire, GoodName}
use Rattle.spec_name.proofs.NameLaws.{fewer_labels, name_is_its_labels}
use Rattle.read_name.proofs.PlaceLaws.{name_to}
use Rattle.read_record.specs.Places.{record_fields}
use Rattle.read_record.specs.declared.RecordAt.{RecordAt}
use Rattle.read_record.proofs.RecordFields.{places_from, fields_read}
use Rattle.read_record.proofs.RecordPlaces.{RecordTo, record_to, data_long}
use Rattle.spec_record.specs.Records.{Record, wire_record}
use Rattle.book_places.specs.Readable.{before, readable}
use Rattle.book_places.specs.Table.{tabled, few_records, short_book, room_for, octets_at}
use Rattle.book_places.specs.Theorems.{RoomEnough}

module _ (book : List ℕ) where
  -- the record r stands in the book from an offset on
  pub record Standing (at : ℕ) (r : Record) : Type 0 where
    pub owner : octets_at book at (length (wire r.owner)) ≡ wire r.owner
    pub rdata : octets_at book (at + length (wire_record r) - length r.rdata) (length r.rdata) ≡ r.rdata
    pub good : GoodName r.owner

  -- records that stand end to end from an offset on
  abbrev pub StandFrom : ℕ → List Record → Type 0
  StandFrom at [] = Unit
  StandFrom at (r ∷ rs) = Standing at r × StandFrom (at + length (wire_record r)) rs

  module _ (at : ℕ) (r : Record) (rest : List ℕ) (h : record_fields (drop at book) ≡ Some (r, rest)) where
    -- a record that is read stands at its places
    places : (p : RecordAt) × RecordTo book at p r × (drop p.next book ≡ rest)
    unfolding record_fields
    places =
        let (owner, mid, found, more) = (bind_some name _ (drop at book) r rest).0 h in
        let e = at + length (wire owner) in
        let k = name_to book at owner mid found in
        let (whole, same, behind) = fields_read book at owner e k r rest h in
        (places_from book e, subst (RecordTo book at (places_from book e)) same (record_to book at owner e k whole), behind)

  module _ (at : ℕ) (p : RecordAt) (r : Record) (t : RecordTo book at p r) where
    pub ends : at + length (wire_record r) ≡ p.next
    ends = simp length-append (omega (arith, t.owner.long, t.ten, t.order, data_long book at p r t))

    stands : Standing at r
    stands =
        let begins : at + length (wire_record r) - length r.rdata ≡ p.rdata = omega (arith, ends, data_long book at p r t, t.order) in
        let owner_long : p.owner_end - at ≡ length (wire r.owner) = omega (arith, t.owner.long) in
        record {
          owner = rw owner_long at t.owner.octets;
          rdata = rw (begins, data_long book at p r t) t.rdata;
          good = ((name_is_its_labels (drop at book) r.owner (drop p.owner_end book)).0 t.owner.found).1;
        }

  readable_stand : (room at : ℕ) → StandFrom at (readable room (drop at book))
  readable_stand zero at = tt
  readable_stand (suc room) at = go (record_fields (drop at book)) refl (readable_stand room)
    where
      first :
          (r : Record) (rest : List ℕ) (p : RecordAt) → RecordTo book at p r → drop p.next book ≡ rest →
          ((at : ℕ) → StandFrom at (readable room (drop at book))) → StandFrom at (r ∷ readable room rest)
      first r rest p t behind more = (stands at p r t, rw (ends at p r t, ← behind) (more p.next))

      go :
          (o : Option (Record × List ℕ)) → record_fields (drop at book) ≡ o → ((at : ℕ) → StandFrom at (readable room (drop at book))) →
          StandFrom at (before o (readable room))
      go None e rest = tt
      go (Some x) e rest = let (p, t, behind) = places at x.0 x.1 e in first x.0 x.1 p t behind rest

  -- each takes eleven octets at least
  abbrev ElevenEach : ℕ → Type 0
  ElevenEach room = (at : ℕ) → at ≤ length book → at + 11 * length (readable room (drop at book)) ≤ length book

  eleven_each : (room : ℕ) → ElevenEach room
  eleven_each zero at h = omega arith
  eleven_each (suc room) at h = go (record_fields (drop at book)) refl (eleven_each room)
    where
      first :
          (r : Record) (rest : List ℕ) (p : RecordAt) → RecordTo book at p r → drop p.next book ≡ rest → ElevenEach room →
          at + 11 * length (r ∷ readable room rest) ≤ length book
      first r rest p t behind more =
          rw (← behind) (omega (arith, more p.next t.inside, t.owner.long, t.ten, t.order, fewer_labels r.owner))

      go :
          (o : Option (Record × List ℕ)) → record_fields (drop at book) ≡ o → ElevenEach room →
          at + 11 * length (before o (readable room)) ≤ length book
      go None e more = omega arith
      go (Some x) e more = let (p, t, behind) = places at x.0 x.1 e in first x.0 x.1 p t behind more

  tabled_octets : 11 * length (tabled book) ≤ length book
  unfolding tabled
  tabled_octets = go (leb (length book) max_book_octets)
    where
      go : (t : Bool) → 11 * length (cond t (readable max_records book) []) ≤ length book
      go true = omega (arith, eleven_each max_records 0 (omega arith))
      go false = omega arith

  pub tabled_stand : StandFrom 0 (tabled book)
  unfolding tabled
  tabled_stand = go (leb (length book) max_book_octets)
    where
      go : (t : Bool) → StandFrom 0 (cond t (readable max_records book) [])
      go true = readable_stand max_records 0
      go false = tt

few_readable : (room : ℕ) (s : List ℕ) → length (readable room s) ≤ room
few_readable zero s = omega arith
few_readable (suc room) s = go (record_fields s) (few_readable room)
  where
    go : (o : Option (Record × List ℕ)) → ((s : List ℕ) → length (readable room s) ≤ room) → length (before o (readable room)) ≤ suc room
    go None rest = omega arith
    go (Some r) rest = omega (arith, rest r.1)

pub few_tabled : (book : List ℕ) → length (tabled book) ≤ max_records
unfolding tabled
few_tabled book = go (leb (length book) max_book_octets)
  where
    go : (t : Bool) → length (cond t (readable max_records book) []) ≤ max_records
    go true = few_readable max_records book
    go false = omega arith

-- the room for the records of a short book, and of any other
pub room_short : (book : List ℕ) → length book ≤ short_book → room_for book ≡ few_records
unfolding room_for
room_short book h = rw (le-leb (length book) short_book h)

pub room_long : (book : List ℕ) → short_book < length book → room_for book ≡ max_records
unfolding room_for
room_long book h = rw (lt-leb (length book) short_book h)

short_few : (book : List ℕ) → length book ≤ short_book → length (tabled book) ≤ few_records
unfolding short_book
short_few book h = omega (arith, tabled_octets book)

few_most : few_records ≤ max_records
unfolding few_records max_records
few_most = omega arith

pub room_enough : RoomEnough
unfolding room_for
room_enough book =
    ⊎_elim
    (λ e. rw e (short_few book (leb-true (length book) short_book e), few_most))
    (λ e. rw e (few_tabled book, omega arith))
    (true_or_false (leb (length book) short_book))
