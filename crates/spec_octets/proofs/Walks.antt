-- Steps of a loop along a slice: the remaining octets, and `all` over them.
use Prim.Native.Nat.{ℕ, ◌+◌, ◌-◌, ◌≤◌, ◌<◌}
use native.Mathlib.Omega.{arith}
use native.Mathlib.Numerals.{add-one}
use mathlib.Core.Path.{◌≡◌, ◌∙◌}
use mathlib.Core.Bool.{Bool, true, false}
use mathlib.Core.List.{List, ◌∷◌}
use lib.ListN.{length, get_or, take, drop, length-drop, drop_of_length-le}
use lib.Seq.{drop-cons, take_all}
use Rattle.spec_octets.specs.Lists.{all}

-- what is left begins with the element at the place, and then comes what is left from the next place on
pub drop_step : {A : Type 0} (d : A) (s : List A) (i j : ℕ) → i < length s → j ≡ i + 1 → drop i s ≡ get_or s i d ∷ drop j s
drop_step d s i j h e = rw (e, add-one) (drop-cons s i d h)

-- `&s[i..]` is what is left from the place on
pub rest_whole : {A : Type 0} (s : List A) (i : ℕ) → take (length s - i) (drop i s) ≡ drop i s
rest_whole s i = take_all (length s - i) (drop i s) (omega (arith, length-drop i s))

module _ {A : Type 0} (p : A → Bool) (d : A) (s : List A) (i : ℕ) (left : all p s ≡ all p (drop i s)) where
  pub all_turn : (j : ℕ) (r : Bool) → i < length s → r ≡ p (get_or s i d) → r ≡ true → j ≡ i + 1 → all p s ≡ all p (drop j s)
  all_turn j r h e t next = left ∙ rw (drop_step d s i j h next, ← e, t)

  pub all_stop : (r : Bool) → i < length s → r ≡ p (get_or s i d) → r ≡ false → all p s ≡ false
  all_stop r h e t = left ∙ rw (drop_step d s i (i + 1) h, ← e, t)

  pub all_end : length s ≤ i → all p s ≡ true
  all_end h = left ∙ rw (drop_of_length-le s h)
