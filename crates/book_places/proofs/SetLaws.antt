-- The set that is named by its first record: the same as along the chain before it, and of numbers that have a link.
use Rattle.std.specs.Prelude.{Some}
use Prim.Native.Nat.{ℕ, zero, suc, ◌+◌, ◌≤◌, ◌<◌}
use native.Mathlib.Omega.{arith}
use mathlib.Core.Path.{◌≡◌, refl, sym, ◌∙◌}
use mathlib.Core.Bool.{Bool, true, false, cond, and-eq-true_iff}
use mathlib.Core.List.{List, [], ◌∷◌, nil≢cons}
use lib.Dec.{ltb}
use lib.ListN.{length}
use borrow.Author.Tests.{ltb-true, le-ltb}
use Rattle.spec_refusal.specs.declared.RecordNo.{RecordNo}
use Rattle.spec_octets.specs.Lists.{cons_if, select}
use Rattle.spec_octets.specs.Octets.{equal_ignoring_case}
use Rattle.spec_octets.proofs.Texts.{same_text}
use Rattle.book_places.specs.declared.Kind.{Kind}
use Rattle.book_places.specs.declared.Kind.TheVariants.{Caa}
use Rattle.book_places.specs.Table.{owner_at}
use Rattle.book_places.specs.Chains.{behind, chain_from}
use Rattle.book_places.specs.Sets.{is_of_kind, is_owned_of, is_owned, owned_of, owned_from, first_of, set_at}
use Rattle.book_places.specs.Theorems.{SetByItsFirst}
use Rattle.book_places.proofs.ChainLaws.{behind_later, chain_step}

-- the first of those that pass along a chain: it passes, has a link, and the chain from there on has the same
module _ (p : ℕ → Bool) (links : List ℕ) where
  pub record FirstAlong (f : ℕ) (fs : List ℕ) : Type 0 where
    pub passes : p f ≡ true
    pub below : f < length links
    pub same : select p (chain_from links f) ≡ f ∷ fs

  first_along : (steps i f : ℕ) (fs : List ℕ) → length links ≤ i + steps → select p (chain_from links i) ≡ f ∷ fs → FirstAlong f fs
  first_along zero i f fs h e = absurd (nil≢cons (rw (chain_step links i, le-ltb i (length links) (omega arith)) at e))
  first_along (suc steps) i f fs h e = step (ltb i (length links)) refl (rw (chain_step links i) at e) (first_along steps (behind links i) f fs)
    where
      Later : Type 0
      Later = length links ≤ behind links i + steps → select p (chain_from links (behind links i)) ≡ f ∷ fs → FirstAlong f fs

      here : (t : Bool) → p i ≡ t → i < length links → cons_if t i (select p (chain_from links (behind links i))) ≡ f ∷ fs → Later → FirstAlong f fs
      here true passes below k later =
          let same : i ≡ f = cc in
          record { passes = rw same at passes; below = rw same at below; same = rw (← same) (e ∙ rw same) }
      here false passes below k later = later (omega (arith, behind_later links i below)) k

      step : (t : Bool) → ltb i (length links) ≡ t → select p (cond t (i ∷ chain_from links (behind links i)) []) ≡ f ∷ fs → Later → FirstAlong f fs
      step true l k later = here (p i) refl (ltb-true i (length links) l) k later
      step false l k later = absurd (nil≢cons k)

select_alike : {A : Type 0} (p q : A → Bool) → ((x : A) → p x ≡ q x) → (xs : List A) → select p xs ≡ select q xs
select_alike p q h [] = refl
select_alike p q h (x ∷ xs) = rw (h x, select_alike p q h xs)

-- what a text owns is of the kind, and has that owner
pub owned_both :
    (kind : Kind) (book table x : List ℕ) (i : ℕ) → is_owned_of kind book table x i ≡ true →
    (is_of_kind kind table i ≡ true) × (equal_ignoring_case (owner_at book table i) x ≡ true)
owned_both kind book table x i e = (and-eq-true_iff (is_of_kind kind table i) (equal_ignoring_case (owner_at book table i) x)).0 e

module _ (book table links : List ℕ) where
  -- the same records have an owner and a text that is the same
  owned_alike : (x y : List ℕ) → equal_ignoring_case y x ≡ true → (i : ℕ) → is_owned book table y i ≡ is_owned book table x i
  unfolding equal_ignoring_case
  owned_alike x y e i = let same = (same_text y x).0 e in rw same

  module _ (x : List ℕ) (i f : ℕ) (fs : List ℕ) (e : owned_from book table links x i ≡ f ∷ fs) where
    pub first_owned_lem : FirstAlong (is_owned book table x) links f fs
    unfolding owned_of
    first_owned_lem = first_along (is_owned book table x) links (length links) i f fs (omega arith) e

    first_below : f < length links
    first_below = first_owned_lem.below

    set_there : set_at book table links f ≡ f ∷ fs
    unfolding set_at owned_of
    set_there =
        let owner = (owned_both Caa book table x f first_owned_lem.passes).1 in
        select_alike (is_owned book table (owner_at book table f)) (is_owned book table x) (owned_alike x (owner_at book table f) owner) (chain_from links f)
        ∙ first_owned_lem.same

pub first_at : (is : List ℕ) (r : RecordNo) → first_of is ≡ Some r → (fs : List ℕ) × (is ≡ r.0 ∷ fs)
first_at [] r e = let z : ◌≡◌ {A = ℕ} 0 1 = cc in absurd (omega arith)
first_at (i ∷ is) r e = let same : i ≡ r.0 = cc in (is, rw same)

pub set_by_its_first : SetByItsFirst
set_by_its_first book table links x i r e =
    let (fs, all) = first_at (owned_from book table links x i) r e in
    set_there book table links x i r.0 fs all ∙ sym all
