-- Six numbers stored one behind the other.
use Prim.Native.Nat.{ℕ, ◌+◌, ◌≤◌}
use native.Mathlib.Numerals.{towards_suc}
use mathlib.Core.Path.{◌≡◌}
use mathlib.Core.List.{List, [], ◌∷◌, ◌++◌, append_assoc}
use lib.ListN.{length, take, drop, set}
use lib.Seq.{sets-eq}

pub row_stored :
    (l : List ℕ) (w a b c d e f : ℕ) → w + 6 ≤ length l →
    set (set (set (set (set (set l w a) (w + 1) b) (w + 2) c) (w + 3) d) (w + 4) e) (w + 5) f
    ≡ take w l ++ ((a ∷ b ∷ c ∷ d ∷ e ∷ f ∷ []) ++ drop (w + 6) l)
row_stored l w a b c d e f h = simp towards_suc (simp (towards_suc, append_assoc) at (sets-eq (a ∷ b ∷ c ∷ d ∷ e ∷ f ∷ []) l w h))
