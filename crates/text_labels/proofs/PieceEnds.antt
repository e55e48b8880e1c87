-- Where a piece ends, found by walking from where it begins.
use Prim.Native.Nat.{ℕ, ◌+◌, ◌≤◌, ◌<◌}
use native.Mathlib.Omega.{arith}
use mathlib.Core.Path.{◌≡◌, refl, sym, ◌∙◌}
use mathlib.Core.List.{List, [], ◌∷◌}
use lib.ListN.{length, get_or, drop, drop_of_length-le}
use borrow.Author.Tests.{eq-eqb, ne_eqb}
use Rattle.spec_octets.specs.Pieces.{extend, split}
use Rattle.text_labels.specs.Places.{first_piece, piece_end}
use Rattle.spec_octets.proofs.Walks.{drop_step}

pub first_extend : (x : ℕ) (ps : List (List ℕ)) → first_piece (extend x ps) ≡ x ∷ first_piece ps
first_extend x [] = refl
first_extend x (p ∷ ps) = refl

module _ (c : ℕ) (s : List ℕ) (at e : ℕ) (left : piece_end c s at ≡ piece_end c s e) where
  pub piece_turn : (j : ℕ) → e < length s → (get_or s e 0 ≡ c → ⊥) → j ≡ e + 1 → piece_end c s at ≡ piece_end c s j
  unfolding piece_end
  piece_turn j h ne next =
      left ∙ rw (drop_step 0 s e j h next, ne_eqb (get_or s e 0) c ne, first_extend (get_or s e 0) (split c (drop j s))) (omega arith)

  pub piece_stop : e < length s → get_or s e 0 ≡ c → e ≡ piece_end c s at
  unfolding piece_end
  piece_stop h here = sym (left ∙ rw (drop_step 0 s e (e + 1) h, eq-eqb (get_or s e 0) c here) (omega arith))

  pub piece_last : length s ≤ e → e ≡ piece_end c s at
  unfolding piece_end
  piece_last h = sym (left ∙ rw (drop_of_length-le s h) (omega arith))
