-- What the elements selected from a list have, and what they keep of it.
use mathlib.Core.Path.{◌≡◌, refl}
use mathlib.Core.Bool.{Bool, true}
use mathlib.Core.List.{List}
use Rattle.spec_octets.specs.Lists.{any, All, all_nil, all_cons, Selects, selects_nil, selects_take, selects_pass, Distinct, distinct_nil, distinct_cons}
use Rattle.spec_octets.proofs.ListLaws.{not_passed}

module _ {A : Type 0} {P : A → Type 0} where
  pub selects_have : {xs ys : List A} → Selects P xs ys → All P ys
  selects_have selects_nil = all_nil
  selects_have (selects_take h s) = all_cons h (selects_have s)
  selects_have (selects_pass n s) = selects_have s

  pub selects_all : {Q : A → Type 0} {xs ys : List A} → Selects P xs ys → All Q xs → All Q ys
  selects_all selects_nil all_nil = all_nil
  selects_all (selects_take h s) (all_cons k ks) = all_cons k (selects_all s ks)
  selects_all (selects_pass n s) (all_cons k ks) = selects_all s ks

  pub selects_distinct : {xs ys : List A} → Selects P xs ys → Distinct xs → Distinct ys
  selects_distinct selects_nil distinct_nil = distinct_nil
  selects_distinct (selects_take h s) (distinct_cons k ks) = distinct_cons (selects_all s k) (selects_distinct s ks)
  selects_distinct (selects_pass n s) (distinct_cons k ks) = selects_distinct s ks

  -- a test that passes only what is selected
  pub any_selects : (q : A → Bool) → ((x : A) → q x ≡ true → P x) → {xs ys : List A} → Selects P xs ys → any q ys ≡ any q xs
  any_selects q has selects_nil = refl
  any_selects q has (selects_take h s) = rw (any_selects q has s)
  any_selects q has (selects_pass {x} n s) = rw (not_passed (q x) (λ e. n (has x e))) (any_selects q has s)
