-- The loop of are_elements: what is left gives the same answer.
use Rattle.std.proofs.lemmas.Option.{none-some}
use Rattle.std.specs.Prelude.{Option, None, Some}
use Prim.Native.Nat.{ℕ, ◌-◌, ◌≤◌, ◌<◌}
use native.Mathlib.Omega.{arith}
use mathlib.Core.Path.{◌≡◌, refl, sym, ap, ◌∙◌}
use mathlib.Core.Logic.{◌↔◌}
use mathlib.Core.Bool.{true, false, false≢true}
use mathlib.Core.List.{List, [], ◌∷◌, ◌++◌, map}
use lib.ListN.{length, drop, length-drop, drop_of_length-le}
use Rattle.spec_octets.specs.Lists.{All, all_nil, all_cons, flatten}
use Rattle.spec_octets.proofs.ListLaws.{All-head, All-tail, alike, not_passed}
use Rattle.spec_octets.proofs.ReaderLaws.{pure_some}
use Rattle.spec_der.specs.Elements.{Element, wire_element, element, elements, GoodElement}
use Rattle.spec_der.proofs.ElementLaws.{element_is_its_form, elements_end_to_end}
use Rattle.read_element.specs.declared.ElementAt.{ElementAt}
use Rattle.read_element.specs.Places.{element_at}
use Rattle.read_element.proofs.ElementPlaces.{ElementTo, no_element, element_there}
use Rattle.read_tbs.specs.Places.{were_read, are_elements}

-- octets are elements exactly when they are these, written
abbrev pub TheseElements : List ℕ → Type 0
TheseElements s = (es : List Element) × (s ≡ flatten (map wire_element es)) × All GoodElement es

pub are_elements_lem : (s : List ℕ) → (are_elements s ≡ true) ↔ TheseElements s
unfolding are_elements
are_elements_lem s = (go (elements s) refl, λ k. ap were_read ((elements_end_to_end s k.0 []).1 (k.1, refl, k.2)))
  where
    go : (o : Option (List Element × List ℕ)) → elements s ≡ o → were_read o ≡ true → TheseElements s
    go None e h = absurd (false≢true h)
    go (Some r) e h = let (front, nil, good) = (elements_end_to_end s r.0 r.1).0 e in (r.0, front, good)

module _ (s : List ℕ) (at p : ℕ) (left : are_elements (drop at s) ≡ are_elements (drop p s)) where
  pub elements_end : length s ≤ p → true ≡ are_elements (drop at s)
  elements_end h = sym (left ∙ rw (drop_of_length-le s h) ((are_elements_lem []).1 ([], refl, all_nil)))

  module _ (h : p < length s) (o : Option ElementAt) (f : o ≡ element_at s p) where
    -- the first of the elements that are left is read, and the others are left then
    first : (es : List Element) → drop p s ≡ flatten (map wire_element es) → All GoodElement es →
        (e : Element) × (rest : List Element) × (element (drop p s) ≡ Some (e, flatten (map wire_element rest))) × All GoodElement rest
    first [] front good = absurd (omega (arith, ap length front, length-drop p s))
    first (e ∷ es) front good =
        (e, es, (element_is_its_form (drop p s) e (flatten (map wire_element es))).1 (front, All-head good), All-tail good)

    pub elements_broken : o ≡ None → false ≡ are_elements (drop at s)
    elements_broken g = sym (left ∙ not_passed (are_elements (drop p s)) (λ t.
        let (es, front, good) = (are_elements_lem (drop p s)).0 t in
        let (e, rest, found, others) = first es front good in
        none-some _ (sym (no_element s p o f g) ∙ found)))

    pub elements_on : (q : ElementAt) → o ≡ Some q → are_elements (drop at s) ≡ are_elements (drop q.next s)
    elements_on q g = let (e, k) = element_there s p o f q g in left ∙ by e k
      where
        by : (e : Element) → ElementTo s p q e → are_elements (drop p s) ≡ are_elements (drop q.next s)
        by e k = alike (are_elements (drop p s)) (are_elements (drop q.next s)) (
          λ t. let (es, front, good) = (are_elements_lem (drop p s)).0 t in
              let (d, rest, found, others) = first es front good in
              let mine = (element_is_its_form (drop p s) e (drop q.next s)).1 (k.front, k.good) in
              let same = ((pure_some e d (drop q.next s) (flatten (map wire_element rest))).0 (sym mine ∙ found)).1 in
              (are_elements_lem (drop q.next s)).1 (rest, same, others),
          λ t. let (es, front, good) = (are_elements_lem (drop q.next s)).0 t in
              (are_elements_lem (drop p s)).1 (e ∷ es, k.front ∙ ap (λ (x : List ℕ). wire_element e ++ x) front, all_cons k.good good),
        )

    pub less_left : (q : ElementAt) → o ≡ Some q → length s - q.next < length s - p
    less_left q g = let (e, k) = element_there s p o f q g in omega (arith, k.after, k.order, k.inside)
