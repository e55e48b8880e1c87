-- A comparison of whole lists, element by element: no list equals a proper prefix or suffix of itself.
use Prim.Native.Nat.{◌<◌}
use native.Mathlib.Omega.{arith}
use mathlib.Core.Path.{◌≡◌, refl, sym, ap, ◌∙◌}
use mathlib.Core.Logic.{◌↔◌, ◌≢◌}
use mathlib.Core.Bool.{Bool, true, false}
use mathlib.Core.List.{List, [], ◌∷◌, ◌++◌, map}
use lib.ListN.{length, length-append, length-map}
use Rattle.spec_octets.proofs.ListLaws.{not_passed}

pub not_empty : {A : Type 0} (p : List A) → p ≢ [] → 0 < length p
not_empty [] h = absurd (h refl)
not_empty (x ∷ p) h = omega arith

module _ {A B : Type 0} (f : A → B) (same : List A → List A → Bool) (law : (a b : List A) → (same a b ≡ true) ↔ (map f a ≡ map f b)) where
  pub lengths_differ : (a b : List A) → length a ≢ length b → same a b ≡ false
  lengths_differ a b ne = not_passed (same a b) (λ e. ne (sym (length-map a f) ∙ ap length ((law a b).0 e) ∙ length-map b f))

  longer : (a b : List A) → length b < length a → (same a b ≡ false) × (same b a ≡ false)
  longer a b h = (lengths_differ a b (λ e. omega arith), lengths_differ b a (λ e. omega arith))

  pub not_a_tail : (p a : List A) → p ≢ [] → (same (p ++ a) a ≡ false) × (same a (p ++ a) ≡ false)
  not_a_tail p a h = longer (p ++ a) a (omega (arith, not_empty p h, length-append p a))

  pub not_a_front : (p a : List A) → p ≢ [] → (same (a ++ p) a ≡ false) × (same a (a ++ p) ≡ false)
  not_a_front p a h = longer (a ++ p) a (omega (arith, not_empty p h, length-append a p))
