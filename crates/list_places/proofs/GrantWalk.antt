-- A walk over the grants of a tagged set: behind the first grant come the others, from behind its record on.
use Rattle.read_value.specs.declared.NameAt.{NameAt}
use Rattle.spec_refusal.specs.declared.RecordNo.{RecordNo}
use Rattle.std.specs.Prelude.{Option, Some, None}
use Prim.Native.Nat.{ℕ, zero, suc, ◌≤◌, ◌<◌}
use native.Mathlib.Omega.{arith}
use mathlib.Core.Path.{◌≡◌, refl, sym, ap, ◌∙◌}
use mathlib.Core.Bool.{Bool, true, false, cond}
use mathlib.Core.List.{List, [], ◌∷◌, ◌++◌, nil≢cons}
use lib.ListN.{length}
use Rattle.spec_record.specs.declared.PropertyTag.{PropertyTag}
use Rattle.spec_applicant.specs.Applicant.{Applicant}
use Rattle.read_grantee.specs.Places.{grantee_at}
use Rattle.book_places.specs.Table.{cell, data_at, owner_at}
use Rattle.book_places.specs.Chains.{behind}
use Rattle.book_places.specs.Sets.{owned_from, first_of, data_has_tag}
use Rattle.book_places.proofs.OwnedWalk.{owned_over, owned_on}
use Rattle.list_places.specs.declared.TaggedSet.{TaggedSet}
use Rattle.list_places.specs.declared.Grant.{Grant}
use Rattle.list_places.specs.Grants.{grant_read, grants_of, grants_from, first_grant}

none_there : (gs : List Grant) → first_grant gs ≡ None → gs ≡ []
none_there [] e = refl
none_there (g ∷ gs) e = let z : ◌≡◌ {A = ℕ} 0 1 = cc in absurd (omega arith)

one_there : (gs : List Grant) (g : Grant) → first_grant gs ≡ Some g → (more : List Grant) × (gs ≡ g ∷ more)
one_there [] g e = let z : ◌≡◌ {A = ℕ} 0 1 = cc in absurd (omega arith)
one_there (h ∷ gs) g e = let same : h ≡ g = cc in (gs, rw same)

module _ (who : Applicant) (book table links : List ℕ) (tag : PropertyTag) (x : List ℕ) where
  abbrev owned : ℕ → List ℕ
  owned i = owned_from book table links x i

  abbrev grants : List ℕ → List Grant
  grants is = grants_of who book table tag is

  -- behind the first grant come those of the records behind its own
  abbrev Behind : ℕ → Type 0
  Behind i = (g : Grant) (gs : List Grant) → grants (owned i) ≡ g ∷ gs → gs ≡ grants (owned (behind links g.rr))

  -- what record r grants, and then those behind it
  one_on : (r : ℕ) → Behind (behind links r) → (i : ℕ) → owned i ≡ r ∷ owned (behind links r) → Behind i
  one_on r rest i here g gs e = go (data_has_tag tag (data_at book table r)) (grantee_at who (data_at book table r)) (rw here at e)
    where
      go :
          (t : Bool) (o : Option NameAt) → cond t (grant_read r (cell table r 2) o) [] ++ grants (owned (behind links r)) ≡ g ∷ gs →
          gs ≡ grants (owned (behind links g.rr))
      go false o k = rest g gs k
      go true None k = rest g gs k
      go true (Some m) k =
          let first : r ≡ g.rr = cc in
          let others : grants (owned (behind links r)) ≡ gs = cc in
          rw (← first) (sym others)

  -- with steps enough for the records left
  others_behind : (n i : ℕ) → length (owned i) ≤ n → Behind i
  others_behind zero i few g gs e = go (owned i) refl few e
    where
      go : (is : List ℕ) → owned i ≡ is → length is ≤ 0 → grants is ≡ g ∷ gs → gs ≡ grants (owned (behind links g.rr))
      go [] k few e = absurd (nil≢cons e)
      go (r ∷ is) k few e = absurd (omega arith)
  others_behind (suc n) i few g gs e = go (first_of (owned i)) refl (others_behind n)
    where
      go : (o : Option RecordNo) → o ≡ first_of (owned i) → ((j : ℕ) → length (owned j) ≤ n → Behind j) → gs ≡ grants (owned (behind links g.rr))
      go None f rest = absurd (nil≢cons (rw (owned_over book table links x i None f refl) at e))
      go (Some r) f rest =
          let here = owned_on book table links x i (Some r) f r refl in
          one_on r.0 (rest (behind links r.0) (omega (arith, ap length here))) i here g gs e

-- o is the answer of next_grant
module _ (who : Applicant) (book table links : List ℕ) (s : TaggedSet) (i : ℕ) (o : Option Grant) (f : o ≡ first_grant (grants_from who book table links s i)) where
  pub grants_over : o ≡ None → grants_from who book table links s i ≡ []
  grants_over e = none_there (grants_from who book table links s i) (sym f ∙ e)

  module _ (g : Grant) (e : o ≡ Some g) where
    pub grants_on : grants_from who book table links s i ≡ g ∷ grants_from who book table links s (behind links g.rr)
    unfolding grants_from
    grants_on =
        let owner = owner_at book table s.set in
        let (more, all) = one_there (grants_from who book table links s i) g (sym f ∙ e) in
        all ∙ ap (◌∷◌ g) (others_behind who book table links s.tag owner (length (owned_from book table links owner i)) i (omega arith) g more all)

    pub fewer_grants :
        (j : ℕ) → j ≡ behind links g.rr → length (grants_from who book table links s j) < length (grants_from who book table links s i)
    fewer_grants j b = rw (b, grants_on) (omega arith)
