-- Lower case keeps letters and digits letters and digits, and leaves a text in lower case unchanged.
use Prim.Native.Nat.{ℕ, ◌+◌, ◌≤◌}
use native.Mathlib.Omega.{arith}
use mathlib.Core.Path.{◌≡◌, refl, ap}
use mathlib.Core.Logic.{◌⊎◌, inl, inr}
use mathlib.Core.Bool.{Bool, true, false, cond, and-eq-true_iff}
use mathlib.Core.List.{List, [], ◌∷◌}
use lib.Dec.{leb}
use borrow.Author.Tests.{leb-true, le-leb, lt-leb}
use Rattle.spec_octets.specs.Octets.{is_upper, is_lower, is_letter_or_digit, lower, lowered}
use Rattle.spec_octets.specs.Pinned.{SmallLetters}
use Rattle.spec_octets.proofs.Classes.{letter_case}

pub small_letters : SmallLetters
small_letters s = refl

-- an octet stays as it is, or is a capital letter and becomes a small one
abbrev pub Lowers : ℕ → Type 0
Lowers x = (lower x ≡ x) ⊎ ((65 ≤ x) × (x ≤ 90) × (lower x ≡ x + 32))

pub lower_cases : (x : ℕ) → Lowers x
unfolding lower is_upper
lower_cases x = go (is_upper x) refl
  where
    go : (t : Bool) → is_upper x ≡ t → (cond t (x + 32) x ≡ x) ⊎ ((65 ≤ x) × (x ≤ 90) × (cond t (x + 32) x ≡ x + 32))
    go true e = let k = (and-eq-true_iff (leb 65 x) (leb x 90)).0 e in inr (leb-true 65 x k.0, leb-true x 90 k.1, refl)
    go false e = inl refl

pub lower_letter : (x : ℕ) → is_letter_or_digit (lower x) ≡ is_letter_or_digit x
unfolding is_letter_or_digit is_upper is_lower
lower_letter x = go (lower_cases x)
  where
    go : Lowers x → is_letter_or_digit (lower x) ≡ is_letter_or_digit x
    go (inl e) = rw e
    go (inr k) =
        rw (
          k.2,
          le-leb 65 x k.0,
          le-leb x 90 k.1,
          le-leb 65 (x + 32) (omega arith),
          lt-leb (x + 32) 90 (omega arith),
          le-leb 97 (x + 32) (omega arith),
          le-leb (x + 32) 122 (omega arith),
        )

lower_twice : (x : ℕ) → lower (lower x) ≡ lower x
lower_twice x = go (lower_cases x)
  where
    go : Lowers x → lower (lower x) ≡ lower x
    go (inl e) = ap lower e
    go (inr k) = rw k.2 ((letter_case (x + 32)).1 (inr (omega arith)))

pub lowered_twice : (s : List ℕ) → lowered (lowered s) ≡ lowered s
lowered_twice [] = refl
lowered_twice (x ∷ s) = rw (lower_twice x, lowered_twice s)
