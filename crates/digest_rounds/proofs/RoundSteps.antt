-- The end of the loop over the rounds: no constant is left, or no word.
use Rattle.std.proofs.Common.{◌≡◌, ℕ, List, [], ◌∷◌, map, length, refl, arith}
use Rattle.spec_digest.specs.Family.{State, Member, rounds}

module _ {W : Type 0} (number : W → ℕ) (m : Member) (s : State) where
  pub no_constants : (ks ws : List W) → length ks ≡ 0 → rounds m s (map number ks) (map number ws) ≡ s
  no_constants [] ws none = refl
  no_constants (k ∷ ks) ws none = absurd (omega arith)

  pub no_words : (ks ws : List W) → length ws ≡ 0 → rounds m s (map number ks) (map number ws) ≡ s
  no_words [] ws none = refl
  no_words (k ∷ ks) [] none = refl
  no_words (k ∷ ks) (x ∷ ws) none = absurd (omega arith)
