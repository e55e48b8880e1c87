-- Tests on lists (all, any, select), and the same as statements (All, Any, Selects).
use Rattle.std.specs.Prelude.{◌≡◌, ◌≢◌, Bool, true, false, ◌&&◌, ◌||◌, List, [], ◌∷◌, ◌++◌}

module _ {A : Type 0} where
  abbrev pub all : (A → Bool) → List A → Bool
  all p [] = true
  all p (x ∷ xs) = p x && all p xs

  abbrev pub any : (A → Bool) → List A → Bool
  any p [] = false
  any p (x ∷ xs) = p x || any p xs

  -- The elements that pass the test, in their order.
  abbrev pub cons_if : Bool → A → List A → List A
  cons_if true x xs = x ∷ xs
  cons_if false x xs = xs

  abbrev pub select : (A → Bool) → List A → List A
  select p [] = []
  select p (x ∷ xs) = cons_if (p x) x (select p xs)

  abbrev pub is_empty : List A → Bool
  is_empty [] = true
  is_empty (x ∷ xs) = false

  -- Whether the first element, or the last, passes the test; false for an empty list.
  abbrev pub begins : (A → Bool) → List A → Bool
  begins p [] = false
  begins p (x ∷ xs) = p x

  abbrev pub ends : (A → Bool) → List A → Bool
  ends p [] = false
  ends p (x ∷ []) = p x
  ends p (x ∷ y ∷ xs) = ends p (y ∷ xs)

  -- Concatenation.
  abbrev pub flatten : List (List A) → List A
  flatten [] = []
  flatten (xs ∷ xss) = xs ++ flatten xss

  -- P holds of every element.
  pub data All (P : A → Type 0) : List A → Type 0 where
    all_nil : All P []
    all_cons : {x : A} {xs : List A} → P x → All P xs → All P (x ∷ xs)

  -- P holds of some element.
  pub data Any (P : A → Type 0) : List A → Type 0 where
    any_here : {x : A} {xs : List A} → P x → Any P (x ∷ xs)
    any_there : {x : A} {xs : List A} → Any P xs → Any P (x ∷ xs)

  -- ys are the elements of xs of which P holds: all of them, in their order.
  pub data Selects (P : A → Type 0) : List A → List A → Type 0 where
    selects_nil : Selects P [] []
    selects_take : {x : A} {xs ys : List A} → P x → Selects P xs ys → Selects P (x ∷ xs) (x ∷ ys)
    selects_pass : {x : A} {xs ys : List A} → (P x → ⊥) → Selects P xs ys → Selects P (x ∷ xs) ys

  -- No element occurs twice.
  pub data Distinct : List A → Type 0 where
    distinct_nil : Distinct []
    distinct_cons : {x : A} {xs : List A} → All (λ y. y ≢ x) xs → Distinct xs → Distinct (x ∷ xs)

  -- x is the first element of xs of which P holds.
  abbrev pub First : (A → Type 0) → List A → A → Type 0
  First P xs x = (before after : List A) × (xs ≡ before ++ (x ∷ after)) × P x × All (λ y. P y → ⊥) before
