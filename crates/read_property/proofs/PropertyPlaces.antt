-- CAA data by offsets: what the offsets say about the property, and a law of property_at for each return of read_property.
use Rattle.std.specs.Prelude.{Option, None, Some}
use Prim.Native.Nat.{ℕ, suc, ◌≤◌, ◌<◌, ◌+◌, ◌-◌}
use native.Mathlib.Omega.{arith}
use mathlib.Core.Path.{◌≡◌, refl, sym, ◌∙◌}
use mathlib.Core.Logic.{◌↔◌}
use mathlib.Core.Bool.{Bool, false}
use mathlib.Core.List.{List, [], ◌∷◌}
use lib.ListN.{length, take, drop, get_or, length-append, take-append-drop}
use lib.Seq.{drop-append_seam, take_at, length-take-le}
use Rattle.spec_octets.specs.Lists.{all}
use Rattle.spec_octets.specs.Octets.{is_letter_or_digit}
use Rattle.spec_octets.proofs.Walks.{rest_whole}
use Rattle.spec_octets.proofs.ReaderLaws.{nothing_found, fault_told}
use Rattle.read_property.specs.declared.PropertyAt.{PropertyAt}
use Rattle.spec_record.specs.Property.{Property, property}
use Rattle.spec_record.specs.Records.{is_caa_data}
use Rattle.read_property.specs.Places.{property_places, property_at, tag_part, value_part}
use Rattle.spec_record.proofs.PropertyLaws.{property_is_its_parts}

module _ (d : List ℕ) where
  -- p says where the parts of the property q stand in d
  pub record PropertyTo (p : PropertyAt) (q : Property) : Type 0 where
    pub found : property d ≡ Some q
    pub flags : p.flags ≡ q.flags
    pub tag : take (p.value - 2) (drop 2 d) ≡ q.tag
    pub value : drop p.value d ≡ q.value
    pub begins : p.value ≡ 2 + length q.tag
    pub full : 2 < p.value
    pub inside : p.value ≤ length d

  property_to : (q : Property) → property d ≡ Some q → PropertyTo (record { flags = q.flags; value = 2 + length q.tag }) q
  property_to q h =
      let (e, l) = (property_is_its_parts d q).0 h in
      let two : 2 + length q.tag ≡ suc (suc (length q.tag)) = omega arith in
      record {
        found = h;
        flags = refl;
        tag = rw e (take_at q.tag q.value (2 + length q.tag - 2) (omega arith));
        value = rw (e, two) (drop-append_seam q.tag q.value);
        begins = refl;
        full = omega arith;
        inside = rw (e, length-append) (omega arith);
      }

  pub property_places_lem : (p : PropertyAt) → (property_at d ≡ Some p) ↔ ((q : Property) × PropertyTo p q)
  unfolding property_at
  property_places_lem p = (go (property d) refl, λ k. rw (k.1.found, ← k.1.flags, ← k.1.begins))
    where
      go : (o : Option Property) → property d ≡ o → property_at d ≡ Some p → (q : Property) × PropertyTo p q
      go None h g = let z : ◌≡◌ {A = ℕ} 0 1 = cc in absurd (omega arith)
      go (Some q) h g =
          let e : record { flags = q.flags; value = 2 + length q.tag } ≡ p = cc in
          (q, rw e at (property_to q h))

  pub property_faults : (property_at d ≡ None) ↔ (property d ≡ None)
  unfolding property_at
  property_faults = fault_told property_places (property d) (λ r e. let z : ◌≡◌ {A = ℕ} 0 1 = cc in omega arith)

  -- a caller of read_property knows its answer o
  module _ (o : Option PropertyAt) (f : o ≡ property_at d) where
    pub property_there : (p : PropertyAt) → o ≡ Some p → (q : Property) × PropertyTo p q
    property_there p g = (property_places_lem p).0 (cc)

    pub no_property : o ≡ None → property d ≡ None
    no_property g = property_faults.0 (cc)

    module _ (g : o ≡ None) where
      pub no_tag : [] ≡ tag_part d
      unfolding tag_part
      no_tag = rw (no_property g)

      pub no_value : [] ≡ value_part d
      unfolding value_part
      no_value = rw (no_property g)

      pub no_caa_data : false ≡ is_caa_data (property d)
      no_caa_data = rw (no_property g)

    module _ (p : PropertyAt) (g : o ≡ Some p) where
      pub tag_there : take (p.value - 2) (drop 2 d) ≡ tag_part d
      unfolding tag_part
      tag_there = let (q, k) = property_there p g in rw k.found k.tag

      pub value_there : take (length d - p.value) (drop p.value d) ≡ value_part d
      unfolding value_part
      value_there =
          let (q, k) = property_there p g in
          rw k.found (rest_whole d p.value ∙ k.value)

      pub caa_data_by_tag : (r : Bool) → r ≡ all is_letter_or_digit (take (p.value - 2) (drop 2 d)) → r ≡ is_caa_data (property d)
      caa_data_by_tag r e = let (q, k) = property_there p g in rw (k.found, ← k.tag) e

      pub tag_inside : 3 ≤ length d
      tag_inside = let (q, k) = property_there p g in omega (arith, k.full, k.inside)

      pub value_after : 2 ≤ p.value
      value_after = let (q, k) = property_there p g in omega arith

      pub value_inside : p.value ≤ length d
      value_inside = (property_there p g).1.inside

  unread : ((q : Property) → property d ≡ Some q → ⊥) → None ≡ property_at d
  unread bad = sym (property_faults.1 (nothing_found (property d) bad))

  lengths :
      (q : Property) → property d ≡ Some q →
      (length d ≡ 2 + length q.tag + length q.value) × (get_or d 1 0 ≡ length q.tag) × (1 ≤ length q.tag)
  lengths q h =
      let (e, l) = (property_is_its_parts d q).0 h in
      (rw (e, length-append) (omega arith), rw e refl, l)

  pub data_cut_off : length d < 2 → None ≡ property_at d
  data_cut_off h = unread (λ q e. omega (arith, lengths q e))

  module _ (n : ℕ) (f : n ≡ get_or d 1 0) where
    pub tag_empty : n ≡ 0 → None ≡ property_at d
    tag_empty h = unread (λ q e. omega (arith, lengths q e))

    pub tag_cut_off : length d - 2 < n → None ≡ property_at d
    tag_cut_off h = unread (λ q e. omega (arith, lengths q e))

pub property_stands :
    (d : List ℕ) (f n v : ℕ) → f ≡ get_or d 0 0 → n ≡ get_or d 1 0 → 2 ≤ length d → (n ≡ 0 → ⊥) → n ≤ length d - 2 → v ≡ 2 + n →
    Some (record { flags = f; value = v }) ≡ property_at d
unfolding property_at
property_stands [] f n v g h l e m w = absurd (omega arith)
property_stands (x ∷ []) f n v g h l e m w = absurd (omega arith)
property_stands (x ∷ y ∷ t) f n v g h l e m w = stands (length-take-le n t (omega arith))
  where
    q : Property
    q = record { flags = f; tag = take n t; value = drop n t }

    stands : length (take n t) ≡ n → Some (record { flags = f; value = v }) ≡ property_at (x ∷ y ∷ t)
    stands k =
        let parts = (property_is_its_parts (x ∷ y ∷ t) q).1 (rw (← g, ← h, take-append-drop, k) refl, omega arith) in
        rw (parts, k, w)
