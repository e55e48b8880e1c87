-- TLSA data by its octets: what is read of fewer than 4, and of 4 or more.
use Rattle.std.specs.Prelude.{Option, None, Some}
use Prim.Native.Nat.{ℕ, ◌-◌, ◌≤◌, ◌<◌}
use native.Mathlib.Omega.{arith}
use mathlib.Core.Path.{◌≡◌, refl, sym, ap, ◌∙◌}
use mathlib.Core.Bool.{true≢false}
use mathlib.Core.List.{List, [], ◌∷◌}
use lib.ListN.{length, take, drop, get_or}
use Rattle.spec_octets.proofs.Walks.{rest_whole}
use Rattle.spec_octets.proofs.ReaderLaws.{nothing_found}
use Rattle.spec_tlsa.specs.Association.{Association, association}
use Rattle.spec_tlsa.proofs.AssociationLaws.{association_is_its_parts}
use Rattle.read_association.specs.declared.AssociationAt.{AssociationAt}
use Rattle.read_association.specs.Places.{fields_of, association_at, association_part}

-- what data of 4 octets or more holds
abbrev pub associated : List ℕ → Association
associated d = record { usage = get_or d 0 0; selector = get_or d 1 0; matching = get_or d 2 0; octets = drop 3 d }

pub found : (d : List ℕ) → 4 ≤ length d → association d ≡ Some (associated d)
found [] h = absurd (omega arith)
found (u ∷ []) h = absurd (omega arith)
found (u ∷ s ∷ []) h = absurd (omega arith)
found (u ∷ s ∷ m ∷ []) h = absurd (omega arith)
found (u ∷ s ∷ m ∷ x ∷ d) h = (association_is_its_parts (u ∷ s ∷ m ∷ x ∷ d) (associated (u ∷ s ∷ m ∷ x ∷ d))).1 (refl, omega arith)

pub not_found : (d : List ℕ) → length d < 4 → association d ≡ None
not_found d h = nothing_found (association d) (λ a e. let (is, more) = (association_is_its_parts d a).0 e in omega (arith, ap length is))

module _ (d : List ℕ) where
  pub no_fields : length d < 4 → None ≡ association_at d
  unfolding association_at
  no_fields h = rw (not_found d h)

  pub fields_stand : 4 ≤ length d → Some (record { usage = get_or d 0 0; selector = get_or d 1 0; matching = get_or d 2 0 }) ≡ association_at d
  unfolding association_at
  fields_stand h = rw (found d h)

  pub no_part : length d < 4 → [] ≡ association_part d
  unfolding association_part
  no_part h = rw (not_found d h)

  pub part_there : 4 ≤ length d → take (length d - 3) (drop 3 d) ≡ association_part d
  unfolding association_part
  part_there h = rw (found d h) (rest_whole d 3)

-- a caller of read_association knows its answer o
pub record AssociationTo (d : List ℕ) (p : AssociationAt) (a : Association) : Type 0 where
  pub found_there : association d ≡ Some a
  pub usage : p.usage ≡ a.usage
  pub selector : p.selector ≡ a.selector
  pub matching : p.matching ≡ a.matching

module _ (d : List ℕ) (o : Option AssociationAt) (f : o ≡ association_at d) where
  pub no_association : o ≡ None → association d ≡ None
  unfolding association_at
  no_association g = go (association d) (sym f ∙ g)
    where
      go : (q : Option Association) → fields_of q ≡ None → q ≡ None
      go None e = refl
      go (Some a) e = absurd (true≢false (cc))

  pub association_there : (p : AssociationAt) → o ≡ Some p → (a : Association) × AssociationTo d p a
  unfolding association_at
  association_there p g = go (association d) refl (sym f ∙ g)
    where
      go : (q : Option Association) → association d ≡ q → fields_of q ≡ Some p → (a : Association) × AssociationTo d p a
      go None e h = absurd (true≢false (cc))
      go (Some a) e h =
          let same : record { usage = a.usage; selector = a.selector; matching = a.matching } ≡ p = cc in (
            a,
            record {
              found_there = e;
              usage = ap (λ (q : AssociationAt). q.usage) (sym same);
              selector = ap (λ (q : AssociationAt). q.selector) (sym same);
              matching = ap (λ (q : AssociationAt). q.matching) (sym same);
            },
          )
