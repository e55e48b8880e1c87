-- Equality of texts: equal lists in lower case, so only texts of the same length.
use Prim.Native.Nat.{ℕ}
use mathlib.Core.Path.{◌≡◌, refl}
use mathlib.Core.Logic.{◌↔◌}
use mathlib.Core.Bool.{true, false≢true, and-eq-true_iff}
use mathlib.Core.List.{List, [], ◌∷◌, nil≢cons, cons≢nil}
use lib.Dec.{eqb}
use borrow.Author.Tests.{eqb-true, eq-eqb}
use Rattle.spec_octets.specs.Octets.{same, is_upper, lower, lowered, equal_ignoring_case}
use Rattle.spec_octets.specs.Theorems.{TextOctets, WholeTexts, TextEdges}
use Rattle.spec_octets.proofs.WholeLists.{not_a_tail, not_a_front}

pub text_octets : TextOctets
text_octets = (refl, λ c s. refl, refl, refl, refl, refl, refl)

pub same_equal : (a b : List ℕ) → (same a b ≡ true) ↔ (a ≡ b)
same_equal [] [] = (λ e. refl, λ e. refl)
same_equal [] (y ∷ ys) = (λ e. absurd (false≢true e), λ e. absurd (nil≢cons e))
same_equal (x ∷ xs) [] = (λ e. absurd (false≢true e), λ e. absurd (cons≢nil e))
same_equal (x ∷ xs) (y ∷ ys) = (
  λ e. let k = (and-eq-true_iff (eqb x y) (same xs ys)).0 e in
      let head = eqb-true x y k.0 in let tail = (same_equal xs ys).0 k.1 in cc,
  λ e. (and-eq-true_iff (eqb x y) (same xs ys)).1 (eq-eqb x y (cc), (same_equal xs ys).1 (cc)),
)

pub same_text : (a b : List ℕ) → (equal_ignoring_case a b ≡ true) ↔ (lowered a ≡ lowered b)
unfolding equal_ignoring_case
same_text a b = same_equal (lowered a) (lowered b)

pub whole_texts : WholeTexts
whole_texts = (same_text, not_a_tail lower equal_ignoring_case same_text, not_a_front lower equal_ignoring_case same_text)

pub text_edges_lem : TextEdges
unfolding equal_ignoring_case lower is_upper
text_edges_lem = refl
