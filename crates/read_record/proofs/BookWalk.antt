-- The loop of check_records over the records of a book: a law for each return.
use Rattle.std.specs.Prelude.{None, Some, Option, Err, Result, Ok}
use Prim.Native.Nat.{ℕ, suc, ◌≤◌, ◌<◌, ◌+◌, ◌-◌}
use native.Mathlib.Nat.{sub-zero, sub_self, zero-add, add-zero}
use native.Mathlib.Omega.{arith}
use mathlib.Core.Path.{◌≡◌, refl, sym, ap, ◌∙◌}
use mathlib.Core.Logic.{◌≢◌}
use mathlib.Core.Bool.{Bool, false, ◌||◌, or_assoc, or-false}
use mathlib.Core.List.{List, []}
use lib.ListN.{length, drop, length-drop, drop_of_length-le}
use borrow.Author.Tests.{lt-ltb, le-ltb}
use Rattle.spec_limits.specs.Limits.{max_book_octets, max_records}
use Rattle.spec_refusal.specs.declared.Refusal.{Refusal}
use Rattle.spec_refusal.specs.declared.Refusal.TheVariants.{BookTooLong, BadRecord, TooManyRecords}
use Rattle.spec_octets.specs.Lists.{any}
use Rattle.spec_octets.specs.Items.{Items, whole, broken, over, follow, before, items, whole_items}
use Rattle.spec_octets.proofs.ItemLaws.{items_end, items_over, items_step}
use Rattle.read_record.specs.declared.RecordAt.{RecordAt}
use Rattle.spec_record.specs.Records.{Record, is_alias, resource_record, record_items, record_refusal, records, layout_refusal}
use Rattle.read_record.specs.Places.{record_at}
use Rattle.read_record.specs.Layouts.{is_alias_record, layout_told, layout_of}
use Rattle.read_record.proofs.RecordPlaces.{no_record_lem, record_there, record_after}

pub book_too_long : (b : List ℕ) → max_book_octets < length b → Err BookTooLong ≡ layout_of b
unfolding layout_of layout_refusal
book_too_long b h = rw (lt-ltb max_book_octets (length b) h)

-- what is told of the items i, numbered from k, where `aliased` says whether there is an alias before them
abbrev told : Bool → ℕ → Items Record → Result Bool Refusal
told aliased k (whole rs) = layout_told None (aliased || any is_alias_record rs)
told aliased k (broken j) = Err (BadRecord (record { 0 = k + j }))
told aliased k over = Err TooManyRecords

told_more : (aliased : Bool) (k : ℕ) (r : Record) (i : Items Record) → told aliased k (follow r i) ≡ told (aliased || is_alias_record r) (k + 1) i
told_more aliased k r (whole rs) = ap (layout_told None) (sym (or_assoc aliased (is_alias_record r) (any is_alias_record rs)))
told_more aliased k r (broken j) = ap (λ m. Err (BadRecord (record { 0 = m }))) (omega arith)
told_more aliased k r over = refl

module _ (b : List ℕ) where
  -- k records are read, the next begins at `at`, and `aliased` says whether there is an alias among those read
  pub record BookRead (k at : ℕ) (aliased : Bool) : Type 0 where
    pub within : k ≤ max_records
    pub same : told false 0 (record_items b) ≡ told aliased k (items resource_record (max_records - k) (drop at b))

  pub book_start : (k at : ℕ) (aliased : Bool) → k ≡ 0 → at ≡ 0 → aliased ≡ false → BookRead k at aliased
  unfolding record_items
  book_start k at aliased e f g = record { within = omega arith; same = rw (e, f, g, sub-zero) }

  module _ (k at : ℕ) (aliased : Bool) (w : BookRead k at aliased) where
    module _ (l : length b ≤ max_book_octets) where
      answer : (x : Result Bool Refusal) → told false 0 (record_items b) ≡ x → x ≡ layout_of b
      unfolding layout_of layout_refusal records
      answer x e = rw (le-ltb max_book_octets (length b) l) (sym e ∙ go (record_items b))
        where
          go : (i : Items Record) → told false 0 i ≡ layout_told (record_refusal i) (any is_alias_record (whole_items i))
          go (whole rs) = refl
          go (broken j) = rw zero-add
          go over = refl

      at_end : length b ≤ at → told false 0 (record_items b) ≡ layout_told None aliased
      at_end h = w.same ∙ rw (drop_of_length-le b h, items_end resource_record, or-false)

      pub book_told : length b ≤ at → Ok aliased ≡ layout_of b
      book_told h = answer (Ok aliased) (at_end h)

    module _ (h : at < length b) where
      left : drop at b ≢ []
      left e = absurd (omega (arith, ap length e, length-drop at b))

      module _ (l : length b ≤ max_book_octets) where
        pub too_many_records : k ≡ max_records → Err TooManyRecords ≡ layout_of b
        too_many_records e = answer l (Err TooManyRecords) (w.same ∙ rw (e, sub_self, items_over resource_record (drop at b) left))

      module _ (n : k ≡ max_records → ⊥) where
        step :
            told aliased k (items resource_record (max_records - k) (drop at b))
            ≡ told aliased k (before (resource_record (drop at b)) (items resource_record (max_records - (k + 1))))
        step =
            let more : max_records - k ≡ suc (max_records - (k + 1)) = omega (arith, w.within) in
            rw (more, items_step resource_record (max_records - (k + 1)) (drop at b) left)

        pub bad_record_lem :
            (o : Option RecordAt) → length b ≤ max_book_octets → o ≡ record_at b at → o ≡ None → Err (BadRecord (record { 0 = k })) ≡ layout_of b
        bad_record_lem o l f g = answer l _ (w.same ∙ step ∙ rw (no_record_lem b at o f g, add-zero))

        pub record_passed :
            (o : Option RecordAt) (p : RecordAt) (k' : ℕ) (alias aliased' : Bool) → o ≡ record_at b at → o ≡ Some p → alias ≡ is_alias p.rtype p.class →
            aliased' ≡ aliased || alias → k' ≡ k + 1 → BookRead k' p.next aliased'
        record_passed o p k' alias aliased' f g d a e = let (r, t, found) = record_there b at o f p g in by r t.type t.class found
          where
            by :
                (r : Record) → p.rtype ≡ r.type → p.class ≡ r.class → resource_record (drop at b) ≡ Some (r, drop p.next b) →
                BookRead k' p.next aliased'
            by r type class found =
                let now : aliased' ≡ aliased || is_alias_record r = rw (← type, ← class) (a ∙ ap (◌||◌ aliased) d) in
                record {
                  within = omega (arith, w.within);
                  same = w.same ∙ step ∙ rw (found, e, now) (told_more aliased k r (items resource_record (max_records - (k + 1)) (drop p.next b)));
                }

-- each turn leaves less of the book
pub less_left :
    (b : List ℕ) (at : ℕ) (o : Option RecordAt) (p : RecordAt) → at < length b → o ≡ record_at b at → o ≡ Some p → length b - p.next < length b - at
less_left b at o p h f g = omega (arith, record_after b at o f p g)
