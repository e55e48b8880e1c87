-- Usable data, and data that matches, by the tests that the code makes one after the other.
use denote.Bor.{Bor}
use Rattle.std.specs.Option.{is_some}
use Rattle.std.specs.Prelude.{Option, None, Some}
use Prim.Native.Nat.{ℕ}
use mathlib.Core.Path.{◌≡◌, refl, sym, ◌∙◌}
use mathlib.Core.Bool.{Bool, true, false, cond, ◌&&◌, and-false}
use mathlib.Core.Logic.{◌⊎◌, inl, inr}
use mathlib.Core.List.{List}
use lib.Dec.{eqb}
use borrow.Author.Tests.{eq-eqb, ne_eqb}
use Rattle.spec_octets.specs.Octets.{same}
use Rattle.spec_tlsa.specs.Association.{Association, association, is_usage, is_selector, is_matching_type}
use Rattle.spec_tlsa.specs.Matches.{Presented, is_usable, is_match}
use Rattle.read_association.specs.declared.AssociationAt.{AssociationAt}
use Rattle.read_association.specs.Places.{association_at, association_part}
use Rattle.read_association.proofs.AssociationPlaces.{AssociationTo, no_association, association_there}
use Rattle.tlsa_fields.specs.Fields.{usage_of, selector_of, matching_type_of}
use Rattle.tlsa_fields.proofs.KnownValues.{known_usage, known_selector, known_matching_type}
use Rattle.tlsa_record.specs.Places.{is_usable_data, is_match_data, presented}

module _ (d : List ℕ) where
  pub malformed : None ≡ association_at d → false ≡ is_usable_data d
  unfolding is_usable_data
  malformed f = rw (no_association d None f refl)

  module _ (p : AssociationAt) (f : Some p ≡ association_at d) where
    -- usable by its fields
    pub by_fields : is_usable_data d ≡ is_usage p.usage && is_selector p.selector && is_matching_type p.matching
    unfolding is_usable_data is_usable
    by_fields = go (association_there d (Some p) f p refl).0 (association_there d (Some p) f p refl).1
      where
        go : (a : Association) → AssociationTo d p a → is_usable_data d ≡ is_usage p.usage && is_selector p.selector && is_matching_type p.matching
        go a k = rw (k.found_there, k.usage, k.selector, k.matching)

    module _ (u s t : Bool) (h : u ≡ is_some (usage_of p.usage)) (k : s ≡ is_some (selector_of p.selector)) where
      pub all_known : t ≡ is_some (matching_type_of p.matching) → (u ≡ true) × (s ≡ true) → t ≡ is_usable_data d
      all_known l both =
          l ∙ known_matching_type p.matching
          ∙ sym (by_fields ∙ rw (← known_usage p.usage, ← h, both.0, ← known_selector p.selector, ← k, both.1))

      pub some_unknown : ((u ≡ true) × (s ≡ false)) ⊎ (u ≡ false) → false ≡ is_usable_data d
      some_unknown (inl l) = sym (by_fields ∙ rw (← known_selector p.selector, ← k, l.1, and-false))
      some_unknown (inr n) = sym (by_fields ∙ rw (← known_usage p.usage, ← h, n))

module _ (d : List ℕ) (usage : ℕ) (certificate key : List ℕ) where
  abbrev c : Presented
  c = presented usage certificate key

  pub no_data : None ≡ association_at d → false ≡ is_match_data c d
  unfolding is_match_data
  no_data f = rw (no_association d None f refl)

  -- malformed or not
  pub not_usable : (a : Bool) → a ≡ is_usable_data d → a ≡ false → false ≡ is_match_data c d
  unfolding is_match_data is_usable_data is_match
  not_usable a e n = go (association d) refl
    where
      go : (o : Option Association) → association d ≡ o → false ≡ is_match_data c d
      go None g = rw g
      go (Some b) g = let no : is_usable b ≡ false = rw g at (sym e ∙ n) in rw (g, no)

  module _ (p : AssociationAt) (f : Some p ≡ association_at d) where
    -- what is matched
    pub by_parts :
        is_match_data c d ≡
        is_usable_data d && eqb p.usage usage && same (association_part d) (cond (eqb p.selector 0) certificate key)
    unfolding is_match_data is_usable_data is_match association_part
    by_parts = go (association_there d (Some p) f p refl).0 (association_there d (Some p) f p refl).1
      where
        go :
            (a : Association) → AssociationTo d p a →
            is_match_data c d ≡ is_usable_data d && eqb p.usage usage && same (association_part d) (cond (eqb p.selector 0) certificate key)
        go a k = rw (k.found_there, k.usage, k.selector)

    pub other_usage : (p.usage ≡ usage → ⊥) → false ≡ is_match_data c d
    other_usage n = sym (by_parts ∙ rw (ne_eqb p.usage usage n, and-false))

    module _ (a : Bool) (e : a ≡ is_usable_data d) (yes : a ≡ true) (is : p.usage ≡ usage) (part : List ℕ) (whole : part ≡ association_part d) (r : Bool) (b : Bor (List ℕ)) where
      pub by_certificate : (x : Bor (List ℕ)) → x.now ≡ certificate → p.selector ≡ 0 → b ≡ x → r ≡ same part b.now → r ≡ is_match_data c d
      by_certificate x w z u h = h ∙ sym (by_parts ∙ rw (← e, yes, eq-eqb p.usage usage is, z, ← whole, u, w))

      pub by_key : (x : Bor (List ℕ)) → x.now ≡ key → (p.selector ≡ 0 → ⊥) → b ≡ x → r ≡ same part b.now → r ≡ is_match_data c d
      by_key x w z u h = h ∙ sym (by_parts ∙ rw (← e, yes, eq-eqb p.usage usage is, ne_eqb p.selector 0 z, ← whole, u, w))
