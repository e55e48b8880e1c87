-- A line's tag by its length and its octets, as the code tests it.
use Prim.Native.Nat.{ℕ, ◌<◌, ◌≤◌}
use native.Mathlib.Omega.{arith}
use mathlib.Core.Path.{◌≡◌, refl}
use mathlib.Core.Bool.{Bool, false, and-false}
use mathlib.Core.Logic.{◌⊎◌, inl, inr}
use mathlib.Core.List.{List, [], ◌∷◌}
use lib.ListN.{length}
use borrow.Author.Tests.{le-leb, lt-leb}
use Rattle.spec_limits.specs.Limits.{max_tag_octets}
use Rattle.spec_octets.specs.Lists.{all}
use Rattle.spec_octets.specs.Octets.{is_letter_or_digit}
use Rattle.spec_line.specs.Read.{is_line_tag}

pub no_tag : (t : List ℕ) → ((length t ≡ 0 → ⊥) × (255 < length t)) ⊎ (length t ≡ 0) → false ≡ is_line_tag t
unfolding is_line_tag max_tag_octets
no_tag t (inl h) = rw (lt-leb (length t) 255 h.1, and-false)
no_tag [] (inr e) = refl
no_tag (x ∷ t) (inr e) = absurd (omega arith)

pub tag_by_octets : (t : List ℕ) (r : Bool) → (length t ≡ 0 → ⊥) → length t ≤ 255 → r ≡ all is_letter_or_digit t → r ≡ is_line_tag t
unfolding is_line_tag max_tag_octets
tag_by_octets [] r full few told = absurd (full refl)
tag_by_octets (x ∷ t) r full few told = rw (le-leb (length (x ∷ t)) 255 few) told
