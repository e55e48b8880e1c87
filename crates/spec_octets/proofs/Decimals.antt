-- An octet in decimal is 1 to 3 digits, not above 255.
use Rattle.std.proofs.lemmas.Option.{none-some, same_Some}
use Rattle.std.specs.Prelude.{None, Some}
use Prim.Native.Nat.{ℕ, ◌+◌, ◌-◌, ◌*◌, ◌≤◌}
use Prim.Native.Char.{code}
use native.Mathlib.Omega.{arith}
use mathlib.Core.Path.{◌≡◌, refl}
use mathlib.Core.Logic.{◌↔◌}
use mathlib.Core.Bool.{Bool, true, false, cond, ◌&&◌, and-eq-true_iff}
use mathlib.Core.List.{List, [], ◌∷◌, ◌++◌}
use lib.Dec.{leb}
use lib.ListN.{length}
use borrow.Author.Tests.{leb-true, le-leb}
use Rattle.spec_octets.specs.Lists.{all, All}
use Rattle.spec_octets.specs.Octets.{between, is_digit}
use Rattle.spec_octets.specs.Decimal.{decimal_from, decimal_octet}
use Rattle.spec_octets.specs.Theorems.{LastPlace, DecimalOctets}
use Rattle.spec_octets.proofs.ListLaws.{all_true}
use Rattle.spec_octets.proofs.Numbers.{value_snoc}

-- the last digit
pub from_last : (m x : ℕ) (a : List ℕ) → decimal_from m (a ++ (x ∷ [])) ≡ decimal_from m a * 10 + (x - code "0")
from_last m x [] = refl
from_last m x (y ∷ a) = from_last (m * 10 + (y - code "0")) x a

pub last_place : LastPlace
last_place = (refl, λ s x. value_snoc 0 s x, refl, λ s d. rw (from_last 0 (48 + d) s) (omega arith))

chosen : (t : Bool) (m n : ℕ) → (cond t (Some m) None ≡ Some n) ↔ ((t ≡ true) × (m ≡ n))
chosen true m n = (λ e. (refl, same_Some m n e), λ h. rw h.1)
chosen false m n = (λ e. absurd (none-some n e), λ h. let e = h.0 in cc)

pub decimal_octets : DecimalOctets
unfolding decimal_octet
decimal_octets s n =
    let size = between 1 3 (length s) in
    let law = chosen (size && all is_digit s && leb (decimal_from 0 s) 255) (decimal_from 0 s) n in (
      λ e. read (law.0 e).1 ((and-eq-true_iff (size && all is_digit s) (leb (decimal_from 0 s) 255)).0 (law.0 e).0),
      λ h. law.1 (
        (and-eq-true_iff (size && all is_digit s) (leb (decimal_from 0 s) 255)).1 (
          (and-eq-true_iff size (all is_digit s)).1 (
            (and-eq-true_iff (leb 1 (length s)) (leb (length s) 3)).1 (le-leb 1 (length s) h.0, le-leb (length s) 3 h.1),
            (all_true is_digit s).1 h.2,
          ),
          le-leb (decimal_from 0 s) 255 (rw h.3 h.4),
        ),
        h.3,
      ),
    )
  where
    read :
        decimal_from 0 s ≡ n → (between 1 3 (length s) && all is_digit s ≡ true) × (leb (decimal_from 0 s) 255 ≡ true) →
        (1 ≤ length s) × (length s ≤ 3) × All (λ x. is_digit x ≡ true) s × (decimal_from 0 s ≡ n) × (n ≤ 255)
    read e h =
        let front = (and-eq-true_iff (between 1 3 (length s)) (all is_digit s)).0 h.0 in
        let size = (and-eq-true_iff (leb 1 (length s)) (leb (length s) 3)).0 front.0 in (
          leb-true 1 (length s) size.0,
          leb-true (length s) 3 size.1,
          (all_true is_digit s).0 front.1,
          e,
          rw e at (leb-true (decimal_from 0 s) 255 h.1),
        )
