-- The first record that clashes, by any test that is right for a record where none before it clashes: for code that goes by record numbers.
use Rattle.std.specs.Prelude.{Option, None, Some}
use Prim.Native.Nat.{ℕ, suc}
use native.Mathlib.Omega.{arith}
use mathlib.Core.Path.{◌≡◌, refl, sym, ap, ap₂, ◌∙◌}
use mathlib.Core.Logic.{◌⊎◌, inl, inr, ⊎_elim}
use mathlib.Core.Bool.{Bool, true, false, cond, ◌&&◌, ◌||◌, false≢true}
use mathlib.Core.List.{List, [], ◌∷◌, ◌++◌, append_assoc, nil≢cons, head-eq_of_cons-eq, tail-eq_of_cons-eq}
use lib.ListN.{length, length-append}
use Rattle.spec_octets.specs.Lists.{any}
use Rattle.spec_octets.proofs.SelectTests.{any_behind}
use Rattle.spec_record.specs.Records.{Record, counts, clash, clashes, clash_from}
use Rattle.spec_record.proofs.ClashLaws.{clashes_exactly}
use Rattle.spec_record.proofs.FirstOfOwner.{ClashFree}

-- an element of a list to which one more is added: the new one, or one that was there
last_or_before :
    {A : Type 0} (front before after : List A) (r q : A) → front ++ (r ∷ []) ≡ before ++ (q ∷ after) →
    ((before ≡ front) × (q ≡ r)) ⊎ ((mid : List A) × (front ≡ before ++ (q ∷ mid)))
last_or_before [] [] after r q e = inl (refl, sym (head-eq_of_cons-eq e))
last_or_before [] (x ∷ []) after r q e = absurd (nil≢cons (tail-eq_of_cons-eq e))
last_or_before [] (x ∷ y ∷ before) after r q e = absurd (nil≢cons (tail-eq_of_cons-eq e))
last_or_before (x ∷ front) [] after r q e = inr (front, ap (λ y. y ∷ front) (head-eq_of_cons-eq e))
last_or_before (x ∷ front) (y ∷ before) after r q e = go (last_or_before front before after r q (tail-eq_of_cons-eq e))
  where
    same : x ≡ y
    same = head-eq_of_cons-eq e

    go : ((before ≡ front) × (q ≡ r)) ⊎ ((mid : List _) × (front ≡ before ++ (q ∷ mid))) →
        ((y ∷ before ≡ x ∷ front) × (q ≡ r)) ⊎ ((mid : List _) × (x ∷ front ≡ y ∷ (before ++ (q ∷ mid))))
    go (inl (f, g)) = inl (ap₂ ◌∷◌ (sym same) f, g)
    go (inr (mid, f)) = inr (mid, ap₂ ◌∷◌ same f)

free_more : (front : List Record) (r : Record) → ClashFree front → clashes r front ≡ false → ClashFree (front ++ (r ∷ []))
free_more front r free none-of-them k (before, q, after, e, l, h) = ⊎_elim new old (last_or_before front before after r q e)
  where
    new : (before ≡ front) × (q ≡ r) → ⊥
    new (f, g) = false≢true (sym none-of-them ∙ (clashes_exactly r front).1 (rw (f, g) at h))

    old : (mid : List Record) × (front ≡ before ++ (q ∷ mid)) → ⊥
    old (mid, f) = free k (before, q, mid, f, l, h)

-- `find k n` is the first of n numbers from k on that passes the test
module _ (rs : List Record) (test : ℕ → Bool) (find : ℕ → ℕ → Option ℕ) (at_end : (k : ℕ) → find k 0 ≡ None)
    (at_next : (k n : ℕ) → find k (suc n) ≡ cond (test k) (Some k) (find (suc k) n))
    (right : (before : List Record) (r : Record) (after : List Record) → rs ≡ before ++ (r ∷ after) → ClashFree before → test (length before) ≡ clashes r before) where
  from : (rest front before : List Record) (k : ℕ) → rs ≡ front ++ rest → length front ≡ k → ((t : Record → Bool) → any t before ≡ any t front) →
      ClashFree front → clash_from k before rest ≡ find k (length rest)
  unfolding clashes
  from [] front before k e l same free = sym (at_end k)
  from (r ∷ rest) front before k e l same free = go (clashes r front) refl (from rest (front ++ (r ∷ [])) (r ∷ before) (suc k)) ∙ sym (at_next k (length rest))
    where
      asked : test k ≡ clashes r front
      asked = rw (← l) (right front r rest e free)

      seen : clashes r before ≡ clashes r front
      seen = ap (◌&&◌ (counts r)) (same (λ p. counts p && clash r p))

      go :
          (t : Bool) → clashes r front ≡ t →
          (rs ≡ (front ++ (r ∷ [])) ++ rest → length (front ++ (r ∷ [])) ≡ suc k → ((t : Record → Bool) → any t (r ∷ before) ≡ any t (front ++ (r ∷ []))) →
          ClashFree (front ++ (r ∷ [])) → clash_from (suc k) (r ∷ before) rest ≡ find (suc k) (length rest)) →
          cond (clashes r before) (Some k) (clash_from (suc k) (r ∷ before) rest) ≡ cond (test k) (Some k) (find (suc k) (length rest))
      go true f later = rw (seen, asked, f)
      go false f later =
          rw (seen, asked, f)
          (later (e ∙ sym (append_assoc front (r ∷ []) rest)) (length-append front (r ∷ []) ∙ omega arith)
          (λ u. ap (◌||◌ (u r)) (same u) ∙ sym (any_behind u front r)) (free_more front r free f))

  pub first_clash : clash_from 0 [] rs ≡ find 0 (length rs)
  first_clash = from rs [] [] 0 refl refl (λ t. refl) (λ k (before, r, after, e, l, h). absurd (nothing before r after e))
    where
      nothing : (before : List Record) (r : Record) (after : List Record) → [] ≡ before ++ (r ∷ after) → ⊥
      nothing [] r after e = nil≢cons e
      nothing (x ∷ before) r after e = nil≢cons e
