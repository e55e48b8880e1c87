-- Trimming removes all leading white space, and nothing else.
use Prim.Native.Nat.{ℕ}
use mathlib.Core.Path.{◌≡◌, refl, ap}
use mathlib.Core.Bool.{Bool, true, false, cond}
use mathlib.Core.List.{List, [], ◌∷◌, ◌++◌}
use Rattle.spec_octets.specs.Lists.{All, all_nil, all_cons, begins}
use Rattle.spec_octets.specs.Octets.{is_blank, trim_start}
use Rattle.spec_octets.specs.Theorems.{Trimmed}

-- rest is s without the blanks at its front
abbrev Taken : List ℕ → List ℕ → Type 0
Taken s rest = (b : List ℕ) × (s ≡ b ++ rest) × All (λ x. is_blank x ≡ true) b × (begins is_blank rest ≡ false)

pub trimmed : Trimmed
trimmed [] = ([], refl, all_nil, refl)
trimmed (x ∷ s) = go (is_blank x) refl (trimmed s)
  where
    go : (t : Bool) → is_blank x ≡ t → Taken s (trim_start s) → Taken (x ∷ s) (cond t (trim_start s) (x ∷ s))
    go true e k = (x ∷ k.0, ap (◌∷◌ x) k.1, all_cons e k.2, k.3)
    go false e k = ([], refl, all_nil, e)
