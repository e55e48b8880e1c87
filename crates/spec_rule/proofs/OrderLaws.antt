-- Which of two comes first in a list, as a test: the first that passes p before the first that passes q.
use Prim.Native.Nat.{ℕ}
use mathlib.Core.Path.{◌≡◌, refl, sym, ap, ◌∙◌}
use mathlib.Core.Logic.{◌↔◌, ◌≢◌}
use mathlib.Core.Bool.{Bool, true, false, cond, true≢false, false≢true}
use mathlib.Core.List.Memᴰ
use mathlib.Core.List.{List, [], ◌∷◌, ◌++◌, append_assoc}
use Rattle.spec_octets.specs.Lists.{any, select, All, all_nil, all_cons, Selects, selects_nil, selects_take, selects_pass, Distinct, distinct_cons, First}
use Rattle.spec_octets.specs.Octets.{same}
use Rattle.spec_octets.proofs.ListLaws.{not_passed, any_true, any_false, All-head, All-tail, All-rest, All-imp}
use Rattle.spec_octets.proofs.SelectLaws.{fails, selected, selects_none, selects_first}
use Rattle.spec_octets.proofs.SelectedLists.{any_selects}
use Rattle.spec_octets.proofs.Texts.{same_equal}
use Rattle.spec_rule.specs.Meaning.{Before}

module _ {A : Type 0} where
  abbrev pub first_before : (A → Bool) → (A → Bool) → List A → Bool
  first_before p q [] = false
  first_before p q (x ∷ xs) = cond (q x) false (cond (p x) (any q xs) (first_before p q xs))

  -- selecting keeps the order of what it takes
  pub first_before_selects :
      {P : A → Type 0} (p q : A → Bool) → ((x : A) → p x ≡ true → P x) → ((x : A) → q x ≡ true → P x) → {xs ys : List A} →
      Selects P xs ys → first_before p q ys ≡ first_before p q xs
  first_before_selects p q i j selects_nil = refl
  first_before_selects p q i j (selects_take h s) = rw (any_selects q j s, first_before_selects p q i j s)
  first_before_selects p q i j (selects_pass {x} n s) =
      rw (not_passed (p x) (λ e. n (i x e)), not_passed (q x) (λ e. n (j x e))) (first_before_selects p q i j s)

  -- the first of which P holds is g, the first of which Q holds is h, and h comes later
  abbrev pub InOrder : (A → Type 0) → (A → Type 0) → List A → Type 0
  InOrder P Q xs =
      (u v w : List A) × (g h : A) × (xs ≡ u ++ (g ∷ (v ++ (h ∷ w)))) × P g × Q h × All (λ x. P x → ⊥) u × All (λ x. Q x → ⊥) (u ++ (g ∷ v))

  abbrev pub Decides : (A → Bool) → (A → Type 0) → Type 0
  Decides p P = (x : A) → (p x ≡ true) ↔ P x

  any_first : (p : A → Bool) {P : A → Type 0} → Decides p P → (xs : List A) → any p xs ≡ true → (x : A) × First P xs x
  any_first p {P} decides xs e = go (select p xs) refl
    where
      go : (ys : List A) → select p xs ≡ ys → (x : A) × First P xs x
      go [] k =
          let absent = (selects_none (selected p decides xs)).0 k in
          absurd (true≢false (sym e ∙ (any_false p xs).1 (All-imp (λ x. (fails p decides x).1) absent)))
      go (y ∷ ys) k = (y, selects_first (selected p decides xs) k)

  module _ (p q : A → Bool) {P Q : A → Type 0} (p-decides : Decides p P) (q-decides : Decides q Q) where
    in_order_passes :
        (u v w : List A) (g h : A) → P g → Q h → All (λ x. P x → ⊥) u → All (λ x. Q x → ⊥) (u ++ (g ∷ v)) →
        first_before p q (u ++ (g ∷ (v ++ (h ∷ w)))) ≡ true
    in_order_passes [] v w g h pg qh a b =
        rw ((fails q q-decides g).1 (All-head b), (p-decides g).1 pg)
        ((any_true q (v ++ (h ∷ w))).1 (h, Memᴰ.append_right v (Memᴰ.head refl), (q-decides h).1 qh))
    in_order_passes (x ∷ u) v w g h pg qh a b =
        rw ((fails q q-decides x).1 (All-head b), (fails p p-decides x).1 (All-head a)) (in_order_passes u v w g h pg qh (All-tail a) (All-tail b))

    passes_in_order : (xs : List A) → first_before p q xs ≡ true → InOrder P Q xs
    passes_in_order [] e = absurd (false≢true e)
    passes_in_order (x ∷ xs) e = go (q x) refl (p x) refl (passes_in_order xs) e
      where
        go :
            (s : Bool) → q x ≡ s → (t : Bool) → p x ≡ t → (first_before p q xs ≡ true → InOrder P Q xs) →
            cond s false (cond t (any q xs) (first_before p q xs)) ≡ true → InOrder P Q (x ∷ xs)
        go true qx t px rest h = absurd (false≢true h)
        go false qx true px rest h =
            let (y, (v, w, k, qy, ns)) = any_first q q-decides xs h in
            ([], v, w, x, y, ap (◌∷◌ x) k, (p-decides x).0 px, qy, all_nil, all_cons ((fails q q-decides x).0 qx) ns)
        go false qx false px rest h =
            let (u, v, w, y, z, k, py, qz, ms, ns) = rest h in
            (x ∷ u, v, w, y, z, ap (◌∷◌ x) k, py, qz, all_cons ((fails p p-decides x).0 px) ms, all_cons ((fails q q-decides x).0 qx) ns)

    pub first_before_exactly : (xs : List A) → (first_before p q xs ≡ true) ↔ InOrder P Q xs
    first_before_exactly xs = (passes_in_order xs, λ (u, v, w, g, h, k, pg, qh, ms, ns). rw k (in_order_passes u v w g h pg qh ms ns))

  -- of distinct elements, those before one are others
  others_before : (u : List A) (a : A) (r : List A) → Distinct (u ++ (a ∷ r)) → All (λ x. a ≢ x) u
  others_before [] a r d = all_nil
  others_before (x ∷ u) a r (distinct_cons h hs) = all_cons (All-head (All-rest u (a ∷ r) h)) (others_before u a r hs)

-- where none stands twice, the only place is the first
pub before_exactly : (a b : List ℕ) (xs : List (List ℕ)) → Distinct xs → Before a b xs ↔ (first_before (same a) (same b) xs ≡ true)
before_exactly a b xs d = (λ k. exactly.1 (only k), λ e. placed (exactly.0 e))
  where
    exactly : (first_before (same a) (same b) xs ≡ true) ↔ InOrder (◌≡◌ a) (◌≡◌ b) xs
    exactly = first_before_exactly (same a) (same b) (same_equal a) (same_equal b) xs

    only : Before a b xs → InOrder (◌≡◌ a) (◌≡◌ b) xs
    only (u, v, w, e) =
        let d' : Distinct (u ++ (a ∷ (v ++ (b ∷ w)))) = rw e at d in
        (u, v, w, a, b, e, refl, refl, others_before u a (v ++ (b ∷ w)) d', others_before (u ++ (a ∷ v)) b w (rw append_assoc d'))

    placed : InOrder (◌≡◌ a) (◌≡◌ b) xs → Before a b xs
    placed (u, v, w, g, h, e, ag, bh, ms, ns) = rw (ag, bh) (u, v, w, e)
