-- No element of a list occurs twice exactly when none stands at two positions.
use mathlib.Core.Path.{sym, ap}
use mathlib.Core.Logic.{◌≢◌}
use mathlib.Core.List.{List, [], ◌∷◌, ◌++◌, cons-eq-cons, cons≢nil}
use Rattle.spec_octets.specs.Lists.{All, all_nil, all_cons, Distinct, distinct_nil, distinct_cons}
use Rattle.spec_octets.specs.Theorems.{DistinctPlaces}

module _ {A : Type 0} where
  -- what holds of every element holds of one behind others
  behind : {P : A → Type 0} (q : List A) (x : A) (r : List A) → All P (q ++ (x ∷ r)) → P x
  behind [] x r (all_cons h hs) = h
  behind (y ∷ q) x r (all_cons h hs) = behind q x r hs

  apart : (xs : List A) → Distinct xs → (p q r : List A) (x : A) → xs ≢ p ++ (x ∷ (q ++ (x ∷ r)))
  apart [] distinct_nil [] q r x e = cons≢nil (sym e)
  apart [] distinct_nil (y ∷ p) q r x e = cons≢nil (sym e)
  apart (y ∷ ys) (distinct_cons others d) [] q r x e = let (a, b) = cons-eq-cons.0 e in behind q x r (rw b at others) (sym a)
  apart (y ∷ ys) (distinct_cons others d) (z ∷ p) q r x e = apart ys d p q r x (cons-eq-cons.0 e).1

  others : (y : A) (ys : List A) → ((q r : List A) → ys ≢ q ++ (y ∷ r)) → All (λ x. x ≢ y) ys
  others y [] h = all_nil
  others y (z ∷ ys) h =
      all_cons (λ e. h [] ys (ap (λ w. w ∷ ys) e)) (others y ys (λ q r e. h (z ∷ q) r (ap (λ l. z ∷ l) e)))

  together : (xs : List A) → ((p q r : List A) (x : A) → xs ≢ p ++ (x ∷ (q ++ (x ∷ r)))) → Distinct xs
  together [] h = distinct_nil
  together (y ∷ ys) h =
      distinct_cons (others y ys (λ q r e. h [] q r y (ap (λ l. y ∷ l) e))) (together ys (λ p q r x e. h (y ∷ p) q r x (ap (λ l. y ∷ l) e)))

pub distinct_places : DistinctPlaces
distinct_places A xs = (apart xs, together xs)
