-- The records of an accepted book are those whose fields can be read, none clashes with another, and their data is well formed.
use Rattle.std.proofs.lemmas.Option.{none-some}
use Rattle.std.specs.Prelude.{Option, None, Some}
use Prim.Native.Nat.{ℕ, zero, suc, ◌+◌}
use mathlib.Core.Path.{◌≡◌, refl, sym, ap}
use mathlib.Core.Bool.{Bool, true, false, cond}
use mathlib.Core.List.{List, [], ◌∷◌, ◌++◌, append-eq-nil_iff}
use lib.Dec.{ltb}
use lib.ListN.{length}
use Rattle.spec_limits.specs.Limits.{max_book_octets, max_records}
use Rattle.spec_refusal.specs.declared.Refusal.{Refusal}
use Rattle.spec_refusal.specs.declared.Refusal.TheVariants.{BookTooLong}
use Rattle.spec_octets.specs.Lists.{All, all_nil, all_cons}
use Rattle.spec_octets.specs.Items.{Items, whole, broken, over, follow, before as beforeItems, whole_items, items}
use Rattle.spec_octets.proofs.ReaderLaws.{bind_some}
use Rattle.spec_name.specs.Names.{wire, name, GoodName}
use Rattle.spec_name.proofs.NameLaws.{name_is_its_labels}
use Rattle.spec_name.proofs.NameField.{wire_full}
use Rattle.read_name.proofs.PlaceLaws.{name_to}
use Rattle.spec_record.specs.Records.{Record, resource_record, record_items, record_refusal, records, layout_refusal, conflict_refusal, book_refusal, GoodData}
use Rattle.spec_record.proofs.RecordLaws.{laid_out}
use Rattle.spec_record.proofs.Book.{or_none, conflict_none}
use Rattle.spec_record.proofs.FirstOfOwner.{ClashFree}
use Rattle.read_record.specs.Places.{record_fields}
use Rattle.read_record.proofs.RecordFields.{fields_read}
use Rattle.read_record.proofs.FieldsAndData.{fields_and_data}
use Rattle.book_places.specs.Readable.{readable}

-- a record that is read begins with its owner, whatever the octets
owner_first :
    (s : List ℕ) (r : Record) (rest : List ℕ) → record_fields s ≡ Some (r, rest) →
    (mid : List ℕ) × (s ≡ wire r.owner ++ mid) × GoodName r.owner
unfolding record_fields
owner_first s r rest h =
    let (owner, mid, found, more) = (bind_some name _ s r rest).0 h in
    let k = name_to s 0 owner mid found in
    let same : owner ≡ r.owner = ap (λ (r : Record). r.owner) (fields_read s 0 owner (0 + length (wire owner)) k r rest h).1 in
    let (front, good) = (name_is_its_labels s owner mid).0 found in
    (mid, rw same at front, rw same at good)

nothing_left : record_fields [] ≡ None
nothing_left = go (record_fields []) refl
  where
    go : (o : Option (Record × List ℕ)) → record_fields [] ≡ o → o ≡ None
    go None e = refl
    go (Some x) e =
        let (mid, front, good) = owner_first [] x.0 x.1 e in
        absurd (wire_full x.0.owner (append-eq-nil_iff.0 (sym front)).0)

-- where no record is refused, those whose fields can be read are the items
abbrev pub Unrefused : ℕ → List ℕ → Type 0
Unrefused room s = record_refusal (items resource_record room s) ≡ None → readable room s ≡ whole_items (items resource_record room s)

pub unrefused : (room : ℕ) (s : List ℕ) → Unrefused room s
unrefused zero [] e = refl
unrefused zero (x ∷ s) e = absurd (none-some _ (sym e))
unrefused (suc room) [] e = rw nothing_left
unrefused (suc room) (x ∷ s) e = go (resource_record (x ∷ s)) refl (unrefused room) e
  where
    more :
        (r : Record) (i : Items Record) (rs : List Record) → (record_refusal i ≡ None → rs ≡ whole_items i) →
        record_refusal (follow r i) ≡ None → r ∷ rs ≡ whole_items (follow r i)
    more r (whole xs) rs ih e = ap (◌∷◌ r) (ih refl)
    more r (broken k) rs ih e = absurd (none-some _ (sym e))
    more r over rs ih e = absurd (none-some _ (sym e))

    go :
        (o : Option (Record × List ℕ)) → resource_record (x ∷ s) ≡ o → ((s : List ℕ) → Unrefused room s) →
        record_refusal (beforeItems o (items resource_record room)) ≡ None →
        readable (suc room) (x ∷ s) ≡ whole_items (beforeItems o (items resource_record room))
    go None f ih e = absurd (none-some _ (sym e))
    go (Some y) f ih e =
        rw ((fields_and_data (x ∷ s) y.0 y.1).0 f).0
        (more y.0 (items resource_record room y.1) (readable room y.1) (ih y.1) e)

-- an accepted book passes both checks
pub laid_out_book : (book : List ℕ) → book_refusal book ≡ None → layout_refusal book ≡ None
unfolding book_refusal
laid_out_book book h = ((or_none (layout_refusal book) (conflict_refusal (records book))).0 h).0

pub clash_free : (book : List ℕ) → book_refusal book ≡ None → ClashFree (records book)
unfolding book_refusal
clash_free book h = (conflict_none (records book)).0 ((or_none (layout_refusal book) (conflict_refusal (records book))).0 h).1

pub accepted_readable : (book : List ℕ) → book_refusal book ≡ None → readable max_records book ≡ records book
unfolding layout_refusal records record_items
accepted_readable book h = unrefused max_records book (go (ltb max_book_octets (length book)) (record_refusal (record_items book)) (laid_out_book book h))
  where
    go : (t : Bool) (o : Option Refusal) → cond t (Some BookTooLong) o ≡ None → o ≡ None
    go true o e = absurd (none-some _ (sym e))
    go false o e = e

-- the data of each record is what its type and class ask for
abbrev pub HoldsData : Record → Type 0
HoldsData r = GoodData r.type r.class r.rdata

items_hold : (room : ℕ) (s : List ℕ) → All HoldsData (whole_items (items resource_record room s))
items_hold zero [] = all_nil
items_hold zero (x ∷ s) = all_nil
items_hold (suc room) [] = all_nil
items_hold (suc room) (x ∷ s) = go (resource_record (x ∷ s)) refl (items_hold room)
  where
    more :
        (r : Record) (i : Items Record) → HoldsData r → All HoldsData (whole_items i) → All HoldsData (whole_items (follow r i))
    more r (whole xs) h hs = all_cons h hs
    more r (broken k) h hs = all_nil
    more r over h hs = all_nil

    go :
        (o : Option (Record × List ℕ)) → resource_record (x ∷ s) ≡ o → ((s : List ℕ) → All HoldsData (whole_items (items resource_record room s))) →
        All HoldsData (whole_items (beforeItems o (items resource_record room)))
    go None e ih = all_nil
    go (Some y) e ih =
        let r = y.0 in
        more r (items resource_record room y.1) ((laid_out r.type r.class r.rdata).0 ((fields_and_data (x ∷ s) r y.1).0 e).1) (ih y.1)

pub records_hold : (book : List ℕ) → All HoldsData (records book)
unfolding records record_items
records_hold book = items_hold max_records book
