-- The elements selected by a property: none, the first, the only selection; and a test that decides the property selects them.
use mathlib.Core.Path.{◌≡◌, refl, sym, ap, ◌∙◌}
use mathlib.Core.Logic.{◌↔◌, ⊎_elim}
use mathlib.Core.Bool.{Bool, true, false, true≢false, false≢true}
use mathlib.Core.List.{List, [], ◌∷◌, ◌++◌, map, nil≢cons, cons≢nil, head-eq_of_cons-eq, tail-eq_of_cons-eq}
use Rattle.spec_octets.specs.Lists.{cons_if, select, is_empty, All, all_nil, all_cons, Any, any_here, any_there, Selects, selects_nil, selects_take, selects_pass, First}
use Rattle.spec_octets.specs.Theorems.{ListFolds, ListTests}
use Rattle.spec_octets.proofs.ListLaws.{true_or_false, not_passed, all_true, any_true, All-head, All-tail, ends_append}

-- where one test says of f x what the other says of x
pub select_map :
    {A B : Type 0} (f : A → B) (p : B → Bool) (q : A → Bool) → ((x : A) → p (f x) ≡ q x) → (xs : List A) →
    select p (map f xs) ≡ map f (select q xs)
select_map f p q h [] = refl
select_map f p q h (x ∷ xs) = rw (h x, select_map f p q h xs) (kept (q x) (select q xs))
  where
    kept : (t : Bool) (ys : List _) → cons_if t (f x) (map f ys) ≡ map f (cons_if t x ys)
    kept true ys = refl
    kept false ys = refl

module _ {A : Type 0} {P : A → Type 0} where
  -- what is selected says what stands in the list
  pub selects_none : {xs ys : List A} → Selects P xs ys → (ys ≡ []) ↔ All (λ x. P x → ⊥) xs
  selects_none selects_nil = (λ e. all_nil, λ n. refl)
  selects_none (selects_take h s) = (λ e. absurd (cons≢nil e), λ n. absurd (All-head n h))
  selects_none (selects_pass n s) = (λ e. all_cons n ((selects_none s).0 e), λ ns. (selects_none s).1 (All-tail ns))

  pub selects_first : {xs ys : List A} → Selects P xs ys → {y : A} {zs : List A} → ys ≡ y ∷ zs → First P xs y
  selects_first selects_nil e = absurd (nil≢cons e)
  selects_first (selects_take {x} {xs} h s) {y} e = let k : x ≡ y = head-eq_of_cons-eq e in ([], xs, rw k, rw k at h, all_nil)
  selects_first (selects_pass {x} n s) e =
      let (before, after, k, h, ns) = selects_first s e in
      (x ∷ before, after, ap (◌∷◌ x) k, h, all_cons n ns)

  pub first_selects : {xs ys : List A} → Selects P xs ys → {y : A} → First P xs y → (zs : List A) × (ys ≡ y ∷ zs)
  first_selects {xs} s {y} (before, after, e, h, ns) = past before ns s e
    where
      past :
          (before : List A) → All (λ x. P x → ⊥) before → {xs ys : List A} → Selects P xs ys → xs ≡ before ++ (y ∷ after) →
          (zs : List A) × (ys ≡ y ∷ zs)
      past [] ns selects_nil e = absurd (nil≢cons e)
      past [] ns (selects_take {ys} p s) e = (ys, rw (head-eq_of_cons-eq e))
      past [] ns (selects_pass n s) e = absurd (n (rw (← head-eq_of_cons-eq e) at h))
      past (b ∷ before) ns selects_nil e = absurd (nil≢cons e)
      past (b ∷ before) ns (selects_take p s) e = absurd (All-head ns (rw (head-eq_of_cons-eq e) at p))
      past (b ∷ before) ns (selects_pass n s) e = past before (All-tail ns) s (tail-eq_of_cons-eq e)

  pub selects_unique : {xs ys zs : List A} → Selects P xs ys → Selects P xs zs → ys ≡ zs
  selects_unique selects_nil selects_nil = refl
  selects_unique (selects_take {x} p s) (selects_take q t) = ap (◌∷◌ x) (selects_unique s t)
  selects_unique (selects_take p s) (selects_pass n t) = absurd (n p)
  selects_unique (selects_pass n s) (selects_take q t) = absurd (n q)
  selects_unique (selects_pass n s) (selects_pass m t) = selects_unique s t

  module _ {Q : A → Type 0} where
    -- an element of both kinds stands among those selected, and is one of both kinds
    pub any_kept : {xs ys : List A} → Selects P xs ys → Any (λ x. P x × Q x) xs → Any Q ys
    any_kept selects_nil h = elim h [ ]
    any_kept (selects_take p s) (any_here h) = any_here h.1
    any_kept (selects_take p s) (any_there h) = any_there (any_kept s h)
    any_kept (selects_pass n s) (any_here h) = absurd (n h.0)
    any_kept (selects_pass n s) (any_there h) = any_kept s h

    pub any_of_kept : {xs ys : List A} → Selects P xs ys → Any Q ys → Any (λ x. P x × Q x) xs
    any_of_kept selects_nil h = elim h [ ]
    any_of_kept (selects_take p s) (any_here h) = any_here (p, h)
    any_of_kept (selects_take p s) (any_there h) = any_there (any_of_kept s h)
    any_of_kept (selects_pass n s) h = any_there (any_of_kept s h)

    -- two properties that the elements have alike select the same
    pub selects_alike : {xs ys : List A} → All (λ x. P x ↔ Q x) xs → Selects P xs ys → Selects Q xs ys
    selects_alike all_nil selects_nil = selects_nil
    selects_alike (all_cons a more) (selects_take p s) = selects_take (a.0 p) (selects_alike more s)
    selects_alike (all_cons a more) (selects_pass n s) = selects_pass (λ q. n (a.1 q)) (selects_alike more s)

  module _ (p : A → Bool) (decides : (x : A) → (p x ≡ true) ↔ P x) where
    pub fails : (x : A) → (p x ≡ false) ↔ (P x → ⊥)
    fails x = (λ e h. true≢false (sym ((decides x).1 h) ∙ e), λ n. not_passed (p x) (λ e. n ((decides x).0 e)))

    pub selected : (xs : List A) → Selects P xs (select p xs)
    selected [] = selects_nil
    selected (x ∷ xs) = ⊎_elim
        (λ e. rw e (selects_take ((decides x).0 e) (selected xs)))
        (λ e. rw e (selects_pass ((fails x).0 e) (selected xs)))
        (true_or_false (p x))

    pub selects_exactly : (xs ys : List A) → (select p xs ≡ ys) ↔ Selects P xs ys
    selects_exactly xs ys = (λ e. rw e at (selected xs), selects_unique (selected xs))

pub list_folds : ListFolds
list_folds A p xs xss = (any_true p xs, all_true p xs, refl, refl)

pub list_tests : ListTests
list_tests A p xs x = (
  selected p (λ y. (λ e. e, λ e. e)) xs,
  (nothing xs, λ e. rw e),
  refl,
  ends_append p xs x [],
  λ e. rw e (refl, refl),
)
  where
    nothing : (xs : List A) → is_empty xs ≡ true → xs ≡ []
    nothing [] e = refl
    nothing (y ∷ ys) e = absurd (false≢true e)
