-- What are_two_elements answers.
use Rattle.std.specs.Option.{option_eq}
use Rattle.std.specs.Prelude.{Option, None, Some}
use Prim.Native.Nat.{ℕ, ◌+◌, ◌-◌}
use native.Mathlib.Omega.{arith}
use mathlib.Core.Path.{◌≡◌, refl, ◌∙◌}
use mathlib.Core.Bool.{Bool}
use mathlib.Core.List.{List, [], ◌∷◌, ◌++◌}
use lib.Dec.{eqb}
use lib.ListN.{length, drop}
use borrow.Author.Tests.{eq-eqb, ne_eqb}
use Rattle.spec_octets.specs.Reader.{◌>>=◌, and_then}
use Rattle.spec_der.specs.Elements.{Element, wire_element, element}
use Rattle.spec_der.specs.Certificate.{filling}
use Rattle.spec_der.proofs.ElementLaws.{element_is_its_form, contents_fit}
use Rattle.read_element.proofs.LengthWays.{drop_front, sum_front}
use Rattle.read_tbs.specs.Places.{end_place, past}
use Rattle.find_key.specs.Places.{was_read, two_elements}

module _ (s : List ℕ) (at : ℕ) where
  -- x is the offset after what was read, and so is the last one exactly when nothing is left
  abbrev Told : Option (Element × List ℕ) → Option ℕ → Type 0
  Told r x = option_eq eqb x (Some (length s)) ≡ was_read (filling r)

  -- the place after two elements
  two : Told ((element >>= (λ e. element)) (drop at s)) (past element s (past element s (Some at)))
  two = go (element (drop at s)) refl
    where
      end : (e : Element) (rest : List ℕ) (p : ℕ) (r : List ℕ) → drop p s ≡ wire_element e ++ r → Told (Some (e, r)) (Some (length s - length r))
      end e rest p [] f = eq-eqb (length s - 0) (length s) (omega arith)
      end e rest p (x ∷ r) f =
          ne_eqb (length s - length (x ∷ r)) (length s) (λ z. omega (arith, sum_front s p (wire_element e) (x ∷ r) f (omega (arith, contents_fit e))))

      second : (p : ℕ) (mid : List ℕ) → drop p s ≡ mid → (r : Option (Element × List ℕ)) → element mid ≡ r → Told r (end_place s r)
      second p mid f None h = refl
      second p mid f (Some r) h = end r.0 [] p r.1 (f ∙ ((element_is_its_form mid r.0 r.1).0 h).0)

      first : (e : Element) (mid : List ℕ) → drop at s ≡ wire_element e ++ mid → Told (element mid) (past element s (Some (length s - length mid)))
      first e mid f =
          let place : length s - length mid ≡ at + length (wire_element e) =
          omega (arith, sum_front s at (wire_element e) mid f (omega (arith, contents_fit e))) in
          let here : drop (length s - length mid) s ≡ mid = rw place (drop_front s at (wire_element e) mid f) in
          rw here (second (length s - length mid) mid here (element mid) refl)

      go : (r : Option (Element × List ℕ)) → element (drop at s) ≡ r → Told (and_then r (λ e. element)) (past element s (end_place s r))
      go None h = refl
      go (Some r) h = first r.0 r.1 ((element_is_its_form (drop at s) r.0 r.1).0 h).0

  pub two_there :
      (a b : Option ℕ) (r : Bool) → a ≡ past element s (Some at) → b ≡ past element s a → r ≡ option_eq eqb b (Some (length s)) →
      r ≡ two_elements (drop at s)
  unfolding two_elements
  two_there a b r f g h = h ∙ rw (g, f) two
