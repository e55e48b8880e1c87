-- Tests as statements: what `||`, `all`, `any` and `ends` say when they pass or fail (`&&`: mathlib's and-eq-true_iff), and laws of All.
use mathlib.Core.Path.{◌≡◌, refl, sym, subst}
use mathlib.Core.Logic.{◌↔◌, ◌≢◌, ◌⊎◌, inl, inr, ⊎_map}
use mathlib.Core.Bool.{Bool, true, false, ◌||◌, beq, true≢false, false≢true, and-eq-true_iff}
use mathlib.Core.List.Memᴰ
use mathlib.Core.List.{List, [], ◌∷◌, ◌++◌, map, Memᴰ}
use Rattle.spec_octets.specs.Lists.{all, any, ends, All, all_nil, all_cons}

pub or_eq_true : (a b : Bool) → (a || b ≡ true) ↔ ((a ≡ true) ⊎ (b ≡ true))
or_eq_true true b = (λ e. inl refl, λ o. refl)
or_eq_true false b = (λ e. inr e, right)
  where
    right : (false ≡ true) ⊎ (b ≡ true) → b ≡ true
    right (inl e) = absurd (false≢true e)
    right (inr e) = e

pub or_eq_false : (a b : Bool) → (a || b ≡ false) ↔ ((a ≡ false) × (b ≡ false))
or_eq_false true b = (λ e. absurd (true≢false e), λ k. k.0)
or_eq_false false b = (λ e. (refl, e), λ k. k.1)

-- a test passes or fails, with the equation kept
pub true_or_false : (t : Bool) → (t ≡ true) ⊎ (t ≡ false)
true_or_false true = inl refl
true_or_false false = inr refl

-- two tests that pass alike are one
pub alike : (a b : Bool) → (a ≡ true) ↔ (b ≡ true) → a ≡ b
alike true b h = sym (h.0 refl)
alike false true h = h.1 refl
alike false false h = refl

pub beq_true : (a b : Bool) → beq a b ≡ true → a ≡ b
beq_true true true e = refl
beq_true true false e = absurd (false≢true e)
beq_true false true e = absurd (false≢true e)
beq_true false false e = refl

pub not_passed : (t : Bool) → (t ≡ true → ⊥) → t ≡ false
not_passed true h = absurd (h refl)
not_passed false h = refl

-- what passes a test is not what fails it
pub told_apart : {A : Type 0} (p : A → Bool) (c : A) → p c ≡ false → (x : A) → p x ≡ true → x ≢ c
told_apart p c fails x passes e = true≢false (cc)

module _ {A : Type 0} where
  module _ {P : A → Type 0} where
    pub All-head : {x : A} {xs : List A} → All P (x ∷ xs) → P x
    All-head (all_cons h hs) = h

    pub All-tail : {x : A} {xs : List A} → All P (x ∷ xs) → All P xs
    All-tail (all_cons h hs) = hs

    pub All-append : (xs ys : List A) → All P (xs ++ ys) ↔ (All P xs × All P ys)
    All-append [] ys = (λ h. (all_nil, h), λ k. k.1)
    All-append (x ∷ xs) ys = (
      λ h. let k = (All-append xs ys).0 (All-tail h) in (all_cons (All-head h) k.0, k.1),
      λ k. all_cons (All-head k.0) ((All-append xs ys).1 (All-tail k.0, k.1)),
    )

    pub All-front : (xs ys : List A) → All P (xs ++ ys) → All P xs
    All-front xs ys h = ((All-append xs ys).0 h).0

    pub All-rest : (xs ys : List A) → All P (xs ++ ys) → All P ys
    All-rest xs ys h = ((All-append xs ys).0 h).1

    pub All-join : {xs ys : List A} → All P xs → All P ys → All P (xs ++ ys)
    All-join {xs} {ys} h k = (All-append xs ys).1 (h, k)

    pub All-member : {y : A} {xs : List A} → All P xs → Memᴰ y xs → P y
    All-member {y} h (Memᴰ.head e) = subst P (sym e) (All-head h)
    All-member h (Memᴰ.tail m) = All-member (All-tail h) m

  pub All-imp : {P Q : A → Type 0} → ((x : A) → P x → Q x) → {xs : List A} → All P xs → All Q xs
  All-imp f all_nil = all_nil
  All-imp f (all_cons {x} h hs) = all_cons (f x h) (All-imp f hs)

  pub All-map :
      {B : Type 0} {P : A → Type 0} {Q : B → Type 0} (f : A → B) → ((x : A) → P x → Q (f x)) → {xs : List A} → All P xs → All Q (map f xs)
  All-map f h all_nil = all_nil
  All-map f h (all_cons {x} k ks) = all_cons (h x k) (All-map f h ks)

  module _ (p : A → Bool) where
    pub all_true : (xs : List A) → (all p xs ≡ true) ↔ All (λ x. p x ≡ true) xs
    all_true [] = (λ e. all_nil, λ h. refl)
    all_true (x ∷ xs) = (
      λ e. let k = (and-eq-true_iff (p x) (all p xs)).0 e in all_cons k.0 ((all_true xs).0 k.1),
      λ h. (and-eq-true_iff (p x) (all p xs)).1 (All-head h, (all_true xs).1 (All-tail h)),
    )

    pub any_false : (xs : List A) → (any p xs ≡ false) ↔ All (λ x. p x ≡ false) xs
    any_false [] = (λ e. all_nil, λ h. refl)
    any_false (x ∷ xs) = (
      λ e. let k = (or_eq_false (p x) (any p xs)).0 e in all_cons k.0 ((any_false xs).0 k.1),
      λ h. (or_eq_false (p x) (any p xs)).1 (All-head h, (any_false xs).1 (All-tail h)),
    )

    -- an element that passes
    abbrev pub Passing : List A → Type 0
    Passing xs = (x : A) × Memᴰ x xs × (p x ≡ true)

    pub any_true : (xs : List A) → (any p xs ≡ true) ↔ Passing xs
    any_true [] = (λ e. absurd (false≢true e), λ k. absurd (Memᴰ.not-nil k.1))
    any_true (x ∷ xs) = (
      λ e. found (⊎_map (λ h. h) (any_true xs).0 ((or_eq_true (p x) (any p xs)).0 e)),
      λ k. (or_eq_true (p x) (any p xs)).1 (passes k (Memᴰ.cases_cons k.1) (any_true xs).1),
    )
      where
        found : (p x ≡ true) ⊎ Passing xs → Passing (x ∷ xs)
        found (inl e) = (x, Memᴰ.head refl, e)
        found (inr k) = (k.0, Memᴰ.tail k.1, k.2)

        passes : (k : Passing (x ∷ xs)) → (k.0 ≡ x) ⊎ Memᴰ k.0 xs → (Passing xs → any p xs ≡ true) → (p x ≡ true) ⊎ (any p xs ≡ true)
        passes k (inl e) rest = inl (rw e at k.2)
        passes k (inr m) rest = inr (rest (k.0, m, k.2))

    -- the last element of a list that goes on is that of what it goes on with
    pub ends_append : (xs : List A) (y : A) (ys : List A) → ends p (xs ++ (y ∷ ys)) ≡ ends p (y ∷ ys)
    ends_append [] y ys = refl
    ends_append (x ∷ []) y ys = refl
    ends_append (x ∷ x' ∷ xs) y ys = ends_append (x' ∷ xs) y ys
