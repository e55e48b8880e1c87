-- A book is accepted with its records, or refused by one row of the table.
use Rattle.std.proofs.lemmas.Option.{same_Some, none-some}
use Rattle.std.specs.Prelude.{Option, None, Some}
use Prim.Native.Nat.{ℕ, ◌≤◌, ◌<◌}
use native.Mathlib.Omega.{arith}
use mathlib.Core.Path.{◌≡◌, refl, sym, ap}
use mathlib.Core.Logic.Iff
use mathlib.Core.Logic.{◌↔◌, ◌≢◌, ◌⊎◌, inl, inr, ⊎_elim}
use mathlib.Core.List.{List, [], map, append-eq-nil_iff}
use lib.ListN.{length}
use Rattle.spec_limits.specs.Limits.{max_book_octets, max_records}
use Rattle.spec_refusal.specs.Refusal.{number, place}
use Rattle.spec_refusal.specs.declared.Refusal.{Refusal}
use Rattle.spec_refusal.specs.declared.Refusal.TheVariants.{BookTooLong, BadRecord, TooManyRecords, AliasConflict}
use Rattle.spec_octets.specs.Lists.{All, flatten}
use Rattle.spec_octets.specs.Octets.{Octets}
use Rattle.spec_octets.specs.Items.{Items, whole, broken, over, whole_items}
use Rattle.spec_octets.specs.Theorems.{ItemsAreRead}
use Rattle.spec_octets.proofs.ItemLaws.{items_end_to_end}
use Rattle.spec_octets.proofs.ItemRefusals.{Rows, one_of_three, acceptance, refusals}
use Rattle.spec_name.proofs.NameField.{wire_full}
use Rattle.spec_record.specs.Records.{Record, wire_record, resource_record, record_items, record_refusal, records, layout_refusal, clash_from, conflict_at, conflict_refusal, or_refusal, book_refusal, GoodRecord}
use Rattle.spec_record.specs.Theorems.{ClashAt, BookIsItsRecords, Row5, Row6, Row7, Row12, BookRefusals}
use Rattle.spec_record.proofs.RecordLaws.{record_is_its_fields}
use Rattle.spec_record.proofs.ClashLaws.{clash_none, clash_some}

full : (r : Record) → wire_record r ≢ []
full r e = wire_full r.owner (simp append-eq-nil_iff at e).0.0.0.0.0

rows : Rows record_refusal number 5 BookTooLong (λ k. BadRecord (record { 0 = k })) TooManyRecords
unfolding number place
rows = record { accepts = λ rs. refl; breaks = λ k. refl; exceeds = refl; first = refl; second = λ k. refl; third = refl; one = λ e. ap place e }

items_read : ItemsAreRead resource_record wire_record GoodRecord
items_read = items_end_to_end Record resource_record wire_record GoodRecord record_is_its_fields full

-- rs are the records of the octets b
abbrev Whole : List ℕ → List Record → Type 0
Whole b rs = (b ≡ flatten (map wire_record rs)) × All GoodRecord rs × (length rs ≤ max_records)

-- rows 5 to 7
layout_whole : (b : List ℕ) → Octets b → (rs : List Record) → ((layout_refusal b ≡ None) × (records b ≡ rs)) ↔ (Whole b rs × (length b ≤ max_book_octets))
unfolding layout_refusal records record_items
layout_whole b o = acceptance rows max_book_octets b (record_items b) whole_items (λ rs. refl) (items_read max_records b o).0

pub layout_refusals :
    (b : List ℕ) → Octets b →
    ((layout_refusal b ≡ Some BookTooLong) ↔ Row5 b)
    × ((k : ℕ) → (layout_refusal b ≡ Some (BadRecord (record { 0 = k }))) ↔ ((length b ≤ max_book_octets) × Row6 b k))
    × ((layout_refusal b ≡ Some TooManyRecords) ↔ ((length b ≤ max_book_octets) × Row7 b))
    × ((r : Refusal) → layout_refusal b ≡ Some r → (5 ≤ number r) × (number r ≤ 7))
unfolding layout_refusal record_items
layout_refusals b o = let law = items_read max_records b o in refusals rows max_book_octets b (record_items b) law.1 law.2

pub layout_faults :
    (b : List ℕ) (r : Refusal) → layout_refusal b ≡ Some r →
    (r ≡ BookTooLong) ⊎ ((k : ℕ) × (r ≡ BadRecord (record { 0 = k }))) ⊎ (r ≡ TooManyRecords)
unfolding layout_refusal
layout_faults b r e = one_of_three rows max_book_octets b (record_items b) r e

-- row 12: the lowest record that clashes
module _ (rs : List Record) where
  pub conflict_none : (conflict_refusal rs ≡ None) ↔ ((k : ℕ) → ClashAt rs k → ⊥)
  unfolding conflict_refusal
  conflict_none = Iff.trans (is_none (clash_from 0 [] rs)) (clash_none rs)
    where
      is_none : (o : Option ℕ) → (conflict_at o ≡ None) ↔ (o ≡ None)
      is_none None = (λ e. refl, λ e. refl)
      is_none (Some k) = (λ e. absurd (none-some _ (sym e)), λ e. absurd (none-some _ (sym e)))

  conflict_some : (k : ℕ) → (conflict_refusal rs ≡ Some (AliasConflict (record { 0 = k }))) ↔ (ClashAt rs k × ((j : ℕ) → j < k → ClashAt rs j → ⊥))
  unfolding conflict_refusal place
  conflict_some k = Iff.trans (is_some (clash_from 0 [] rs)) (clash_some rs k)
    where
      is_some : (o : Option ℕ) → (conflict_at o ≡ Some (AliasConflict (record { 0 = k }))) ↔ (o ≡ Some k)
      is_some None = (λ e. absurd (none-some _ e), λ e. absurd (none-some _ e))
      is_some (Some j) = (λ e. ap Some (ap place (same_Some _ _ e)), λ e. rw (same_Some _ _ e))

  pub conflict_faults : (r : Refusal) → conflict_refusal rs ≡ Some r → (k : ℕ) × (r ≡ AliasConflict (record { 0 = k }))
  unfolding conflict_refusal
  conflict_faults r e = go (clash_from 0 [] rs) e
    where
      go : (o : Option ℕ) → conflict_at o ≡ Some r → (k : ℕ) × (r ≡ AliasConflict (record { 0 = k }))
      go None e = absurd (none-some _ e)
      go (Some k) e = (k, sym (same_Some _ _ e))

  conflict_number : (r : Refusal) → conflict_refusal rs ≡ Some r → number r ≡ 12
  unfolding number
  conflict_number r e = ap number (conflict_faults r e).1

-- a book with a conflict is read whole
pub conflict_exactly : (b : List ℕ) → Octets b → (k : ℕ) → (conflict_refusal (records b) ≡ Some (AliasConflict (record { 0 = k }))) ↔ Row12 b k
unfolding records record_items conflict_refusal
conflict_exactly b o k = (go (record_items b) refl, found)
  where
    Given : List Record → Type 0
    Given rs = conflict_refusal rs ≡ Some (AliasConflict (record { 0 = k }))

    go : (i : Items Record) → record_items b ≡ i → Given (whole_items i) → Row12 b k
    go (whole rs) w e =
        let (a, g, l) = ((items_read max_records b o).0 rs).0 w in
        let (c, lowest) = (conflict_some rs k).0 e in
        (rs, a, g, l, c, lowest)
    go (broken j) w e = absurd (none-some _ e)
    go over w e = absurd (none-some _ e)

    found : Row12 b k → Given (records b)
    found (rs, a, g, l, c, lowest) = rw (((items_read max_records b o).0 rs).1 (a, g, l)) ((conflict_some rs k).1 (c, lowest))

-- the first of two checks
pub or_none : (c d : Option Refusal) → (or_refusal c d ≡ None) ↔ ((c ≡ None) × (d ≡ None))
or_none None d = (λ e. (refl, e), λ h. h.1)
or_none (Some q) d = (λ e. absurd (none-some _ (sym e)), λ h. absurd (none-some _ (sym h.0)))

or_some : (c d : Option Refusal) (r : Refusal) → (or_refusal c d ≡ Some r) ↔ ((c ≡ Some r) ⊎ ((c ≡ None) × (d ≡ Some r)))
or_some None d r = (λ e. inr (refl, e), λ h. ⊎_elim (λ e. absurd (none-some _ e)) (λ k. k.1) h)
or_some (Some q) d r = (λ e. inl e, λ h. ⊎_elim (λ e. e) (λ k. absurd (none-some _ (sym k.0))) h)

module _ (b : List ℕ) (o : Octets b) where
  abbrev layout : Option Refusal
  layout = layout_refusal b

  abbrev conflict : Option Refusal
  conflict = conflict_refusal (records b)

  accepted : (rs : List Record) → ((or_refusal layout conflict ≡ None) × (records b ≡ rs)) ↔ (Whole b rs × (length b ≤ max_book_octets) × ((k : ℕ) → ClashAt rs k → ⊥))
  accepted rs = (
    λ h. let (e, free) = (or_none layout conflict).0 h.0 in
        let (w, l) = (layout_whole b o rs).0 (e, h.1) in
        (w, l, (conflict_none rs).0 (rw h.1 at free)),
    λ h. let (e, same) = (layout_whole b o rs).1 (h.0, h.1) in ((or_none layout conflict).1 (e, rw same ((conflict_none rs).1 h.2)), same),
  )

  -- rows 5 to 7 are answered by the first check
  by_layout : (r : Refusal) → number r ≤ 7 → (or_refusal layout conflict ≡ Some r) ↔ (layout ≡ Some r)
  by_layout r below = (
    λ e. ⊎_elim (λ f. f) (λ f. absurd (omega (arith, conflict_number (records b) r f.1))) ((or_some layout conflict r).0 e),
    λ e. (or_some layout conflict r).1 (inl e),
  )

  -- row 12 by the second, where the first passes
  by_conflict : (k : ℕ) → (or_refusal layout conflict ≡ Some (AliasConflict (record { 0 = k }))) ↔ ((length b ≤ max_book_octets) × Row12 b k)
  unfolding number
  by_conflict k = (
    λ e. ⊎_elim
        (λ f. absurd (omega (arith, (layout_refusals b o).3 _ f)))
        (λ f. (((layout_whole b o (records b)).0 (f.0, refl)).1, (conflict_exactly b o k).0 f.1))
        ((or_some layout conflict _).0 e),
    λ (short, row). (or_some layout conflict _).1 (inr (clear short row, (conflict_exactly b o k).1 row)),
  )
    where
      clear : length b ≤ max_book_octets → Row12 b k → layout ≡ None
      clear short (rs, a, g, l, c, lowest) = ((layout_whole b o rs).1 ((a, g, l), short)).0

  numbers : (r : Refusal) → or_refusal layout conflict ≡ Some r → ((5 ≤ number r) × (number r ≤ 7)) ⊎ (number r ≡ 12)
  numbers r e = ⊎_elim (λ f. inl ((layout_refusals b o).3 r f)) (λ f. inr (conflict_number (records b) r f.1)) ((or_some layout conflict r).0 e)

pub book_is_its_records : BookIsItsRecords
unfolding book_refusal
book_is_its_records b o rs =
    let law = accepted b o rs in
    (λ h. let (w, l, free) = law.0 h in (w.0, w.1, w.2, l, free), λ h. law.1 ((h.0, h.1, h.2), h.3, h.4))

pub book_refusals : BookRefusals
unfolding book_refusal number
book_refusals b o =
    let law = layout_refusals b o in (
      Iff.trans (by_layout b o BookTooLong (omega arith)) law.0,
      λ k. Iff.trans (by_layout b o (BadRecord (record { 0 = k })) (omega arith)) (law.1 k),
      Iff.trans (by_layout b o TooManyRecords (omega arith)) law.2,
      by_conflict b o,
      numbers b o,
    )

-- no other refusal is given
pub book_faults :
    (b : List ℕ) (r : Refusal) → book_refusal b ≡ Some r →
    (r ≡ BookTooLong) ⊎ ((k : ℕ) × (r ≡ BadRecord (record { 0 = k }))) ⊎ (r ≡ TooManyRecords) ⊎ ((k : ℕ) × (r ≡ AliasConflict (record { 0 = k })))
unfolding book_refusal
book_faults b r e = ⊎_elim
    (λ f. ⊎_elim inl (λ g. inr (⊎_elim inl (λ h. inr (inl h)) g)) (layout_faults b r f))
    (λ f. inr (inr (inr (conflict_faults (records b) r f.1))))
    ((or_some (layout_refusal b) (conflict_refusal (records b)) r).0 e)
