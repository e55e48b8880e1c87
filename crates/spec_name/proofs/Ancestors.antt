-- The names at which the search looks, by the number of labels removed.
use Prim.Native.Nat.{ℕ, zero, suc, ◌<◌}
use native.Mathlib.Nat.{not-suc-le-zero, le_of_suc-le-suc}
use mathlib.Core.Path.{◌≡◌, refl, ap}
use mathlib.Core.List.{[], ◌∷◌}
use lib.ListN.{length, drop, get_or}
use Rattle.spec_name.specs.Names.{Name, ancestors}
use Rattle.spec_name.specs.Theorems.{AncestorsByLabelsTakenOff}

how_many : (x : Name) → length (ancestors x) ≡ length x
how_many [] = refl
how_many (l ∷ x) = ap suc (how_many x)

which : (x : Name) (k : ℕ) → k < length x → get_or (ancestors x) k [] ≡ drop k x
which [] k h = absurd (not-suc-le-zero h)
which (l ∷ x) zero h = refl
which (l ∷ x) (suc k) h = which x k (le_of_suc-le-suc h)

pub ancestors_by_labels_taken_off : AncestorsByLabelsTakenOff
ancestors_by_labels_taken_off x = (how_many x, which x)
