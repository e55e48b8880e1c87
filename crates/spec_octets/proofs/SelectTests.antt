-- Elements selected by a test that all pass, that none passes, or by two tests in turn; and whether some element passes, by those selected and with one more behind.
use mathlib.Core.Path.{◌≡◌, refl, ap}
use mathlib.Core.Bool.{Bool, true, false, not, ◌&&◌, ◌||◌}
use mathlib.Core.List.{List, [], ◌∷◌, ◌++◌}
use Rattle.spec_octets.specs.Lists.{any, cons_if, select, is_empty, All, all_nil, all_cons}

module _ {A : Type 0} where
  -- where all pass, all are selected; where none does, none
  pub select_passed : (p : A → Bool) {xs : List A} → All (λ x. p x ≡ true) xs → select p xs ≡ xs
  select_passed p all_nil = refl
  select_passed p (all_cons {x} e h) = rw e (ap (◌∷◌ x) (select_passed p h))

  pub select_every : (xs : List A) → select (λ x. true) xs ≡ xs
  select_every [] = refl
  select_every (x ∷ xs) = ap (◌∷◌ x) (select_every xs)

  pub select_nothing : (xs : List A) → select (λ x. false) xs ≡ []
  select_nothing [] = refl
  select_nothing (x ∷ xs) = select_nothing xs

  -- twice selected are those that pass both tests
  pub select_twice : (p q : A → Bool) (xs : List A) → select q (select p xs) ≡ select (λ x. p x && q x) xs
  select_twice p q [] = refl
  select_twice p q (x ∷ xs) = go (p x) (select_twice p q xs)
    where
      go :
          (t : Bool) → select q (select p xs) ≡ select (λ x. p x && q x) xs →
          select q (cons_if t x (select p xs)) ≡ cons_if (t && q x) x (select (λ x. p x && q x) xs)
      go true rest = ap (cons_if (q x) x) rest
      go false rest = rest

  pub any_selected : (p : A → Bool) (xs : List A) → any p xs ≡ not (is_empty (select p xs))
  any_selected p [] = refl
  any_selected p (x ∷ xs) = go (p x) (any_selected p xs)
    where
      go : (t : Bool) → any p xs ≡ not (is_empty (select p xs)) → t || any p xs ≡ not (is_empty (cons_if t x (select p xs)))
      go true rest = refl
      go false rest = rest

  pub any_behind : (p : A → Bool) (xs : List A) (y : A) → any p (xs ++ (y ∷ [])) ≡ p y || any p xs
  any_behind p [] y = refl
  any_behind p (x ∷ xs) y = go (p x) (p y) (any_behind p xs y)
    where
      go : (s t : Bool) → any p (xs ++ (y ∷ [])) ≡ t || any p xs → s || any p (xs ++ (y ∷ [])) ≡ t || (s || any p xs)
      go true true rest = refl
      go true false rest = refl
      go false t rest = rest
