-- Two texts of one length compared pair by pair: u and v are what is left of a and b.
use Rattle.std.proofs.Common.{◌≡◌, ℕ, Bool, true, ◌&&◌, ◌⊎◌, List, [], ◌∷◌, length, refl, sym, ◌∙◌, arith, inl, inr, eqb}
use mathlib.Core.Bool.{and_assoc, and-true}
use Rattle.spec_octets.specs.Octets.{lower, equal_ignoring_case}

none_left : (u v : List ℕ) → length u ≡ length v → (length u ≡ 0) ⊎ (length v ≡ 0) → true ≡ equal_ignoring_case u v
unfolding equal_ignoring_case
none_left [] [] long out = refl
none_left [] (y ∷ v) long out = absurd (omega arith)
none_left (x ∷ u) [] long out = absurd (omega arith)
none_left (x ∷ u) (y ∷ v) long (inl e) = absurd (omega arith)
none_left (x ∷ u) (y ∷ v) long (inr e) = absurd (omega arith)

module _ (a b u v : List ℕ) where
  -- Without stopping at a difference: s says whether the octets so far are the same.
  module _ (s : Bool) (left : equal_ignoring_case a b ≡ (s && equal_ignoring_case u v)) where
    pub once_turn : (x y p q : ℕ) (u' v' : List ℕ) → u ≡ x ∷ u' → v ≡ y ∷ v' → p ≡ lower x → q ≡ lower y →
        equal_ignoring_case a b ≡ ((s && eqb p q) && equal_ignoring_case u' v')
    unfolding equal_ignoring_case
    once_turn x y p q u' v' ue ve pe qe = left ∙ rw (ue, ve, pe, qe) (sym (and_assoc s (eqb (lower x) (lower y)) _))

    pub once_end : length u ≡ length v → (length u ≡ 0) ⊎ (length v ≡ 0) → s ≡ equal_ignoring_case a b
    once_end long out = sym (left ∙ rw (← none_left u v long out, and-true))
