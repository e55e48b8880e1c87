-- The relevant set is found at the first of X, its parent, .. where the lookup is not empty.
use Prim.Native.Nat.{ℕ, zero, suc, ◌<◌}
use native.Mathlib.Nat.{not-suc-le-zero, le_of_suc-le-suc}
use native.Mathlib.Omega.{arith}
use mathlib.Core.Path.{◌≡◌, refl, sym, ◌∙◌}
use mathlib.Core.Logic.{◌↔◌, ◌≢◌, ◌⊎◌, inl, inr, ⊎_elim}
use mathlib.Core.Bool.{true≢false}
use mathlib.Core.List.{List, [], ◌∷◌, map}
use lib.ListN.{length, drop}
use Rattle.spec_name.specs.Names.{Label, Name, ancestors}
use Rattle.spec_rule.specs.RelevantSet.{Book, Lookup, empty, found, endless, lookup, first_found, relevant_set}
use Rattle.spec_rule.specs.Meaning.{NearestAt}
use Rattle.spec_rule.specs.Theorems.{NearestNameDecides}

module _ (book : Book) where
  -- nothing at the first k places
  abbrev NothingBelow : Name → ℕ → Type 0
  NothingBelow x k = (j : ℕ) → j < k → lookup book (drop j x) ≡ empty

  -- one place more, in front
  nothing_more : (l : Label) (x : Name) (k : ℕ) → lookup book (l ∷ x) ≡ empty → NothingBelow x k → NothingBelow (l ∷ x) (suc k)
  nothing_more l x k e none_below zero h = e
  nothing_more l x k e none_below (suc j) h = none_below j (le_of_suc-le-suc h)

  -- what is not empty is found at once
  at_once : (f : Lookup) → f ≢ empty → (ls : List Lookup) → first_found (f ∷ ls) ≡ f
  at_once empty h ls = absurd (h refl)
  at_once (found rs) h ls = refl
  at_once (endless r) h ls = refl

  empty_or_not : (f : Lookup) → (f ≡ empty) ⊎ (f ≢ empty)
  empty_or_not empty = inl refl
  empty_or_not (found rs) = inr (λ e. true≢false (cc))
  empty_or_not (endless r) = inr (λ e. true≢false (cc))

  abbrev Near : Name → Lookup → Type 0
  Near x f = (k : ℕ) × NearestAt book x k f

  module _ (f : Lookup) (some-set : f ≢ empty) where
    nearest : (x : Name) → (relevant_set book x ≡ f) ↔ Near x f
    unfolding relevant_set
    nearest [] = (λ e. absurd (some-set (sym e)), λ n. absurd (not-suc-le-zero n.1.0))
    nearest (l ∷ x) = ⊎_elim (further (nearest x)) here (empty_or_not (lookup book (l ∷ x)))
      where
        Found : Type 0
        Found = first_found (lookup book (l ∷ x) ∷ map (lookup book) (ancestors x)) ≡ f

        here : lookup book (l ∷ x) ≢ empty → Found ↔ Near (l ∷ x) f
        here h = (
          λ e. (0, (omega arith, sym (at_once (lookup book (l ∷ x)) h (map (lookup book) (ancestors x))) ∙ e, some-set, λ j less. absurd (omega arith))),
          back,
        )
          where
            back : Near (l ∷ x) f → Found
            back (zero, (less, e, n, none_below)) = at_once (lookup book (l ∷ x)) h (map (lookup book) (ancestors x)) ∙ e
            back (suc k, (less, e, n, none_below)) = absurd (h (none_below 0 (omega arith)))

        further : (relevant_set book x ≡ f) ↔ Near x f → lookup book (l ∷ x) ≡ empty → Found ↔ Near (l ∷ x) f
        further ih e = (λ h. up (ih.0 (sym passed ∙ h)), λ n. passed ∙ ih.1 (down n))
          where
            passed : first_found (lookup book (l ∷ x) ∷ map (lookup book) (ancestors x)) ≡ first_found (map (lookup book) (ancestors x))
            passed = rw e refl

            up : Near x f → Near (l ∷ x) f
            up (k, (h, g, n, none_below)) = (suc k, (omega arith, g, n, nothing_more l x k e none_below))

            down : Near (l ∷ x) f → Near x f
            down (zero, (h, g, n, none_below)) = absurd (n (sym g ∙ e))
            down (suc k, (h, g, n, none_below)) = (k, (omega arith, g, n, λ j less. none_below (suc j) (omega arith)))

  nowhere : (x : Name) → (relevant_set book x ≡ empty) ↔ NothingBelow x (length x)
  unfolding relevant_set
  nowhere [] = (λ e k h. absurd (not-suc-le-zero h), λ none_below. refl)
  nowhere (l ∷ x) = go (lookup book (l ∷ x)) refl (nowhere x)
    where
      go :
          (f : Lookup) → lookup book (l ∷ x) ≡ f → (relevant_set book x ≡ empty) ↔ NothingBelow x (length x) →
          (first_found (f ∷ map (lookup book) (ancestors x)) ≡ empty) ↔ NothingBelow (l ∷ x) (length (l ∷ x))
      go (found qs) e ih = (λ h. absurd (true≢false (cc)), λ none_below. sym e ∙ none_below 0 (omega arith))
      go (endless r) e ih = (λ h. absurd (true≢false (cc)), λ none_below. sym e ∙ none_below 0 (omega arith))
      go empty e ih = (
        λ h. nothing_more l x (length x) e (ih.0 h),
        λ none_below. ih.1 (λ j less. none_below (suc j) (omega arith)),
      )

pub nearest_name_decides : NearestNameDecides
nearest_name_decides book x = (λ f h. nearest book f h x, nowhere book x)
