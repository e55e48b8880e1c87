-- The number of items, and the number of a malformed item, are within the maximum, for any octets.
use Rattle.std.specs.Prelude.{Option, None, Some}
use Prim.Native.Nat.{ℕ, zero, suc, ◌≤◌, ◌<◌}
use native.Mathlib.Omega.{arith}
use mathlib.Core.List.{List, [], ◌∷◌}
use lib.ListN.{length}
use Rattle.spec_octets.specs.Reader.{Reader}
use Rattle.spec_octets.specs.Items.{Items, whole, broken, over, follow, before, whole_items, items}

module _ {A : Type 0} where
  abbrev pub Within : ℕ → Items A → Type 0
  Within room (whole xs) = length xs ≤ room
  Within room (broken k) = k < room
  Within room over = Unit {0}

  within_more : (room : ℕ) (a : A) (i : Items A) → Within room i → Within (suc room) (follow a i)
  within_more room a (whole xs) h = omega arith
  within_more room a (broken k) h = omega arith
  within_more room a over h = tt

  pub items_within : (read : Reader A) (room : ℕ) (s : List ℕ) → Within room (items read room s)
  items_within read zero [] = omega arith
  items_within read zero (x ∷ s) = tt
  items_within read (suc room) [] = omega arith
  items_within read (suc room) (x ∷ s) = go (read (x ∷ s)) (items_within read room)
    where
      go : (o : Option (A × List ℕ)) → ((t : List ℕ) → Within room (items read room t)) → Within (suc room) (before o (items read room))
      go None ih = omega arith
      go (Some r) ih = within_more room r.0 (items read room r.1) (ih r.1)

  pub whole_within : (room : ℕ) (i : Items A) → Within room i → length (whole_items i) ≤ room
  whole_within room (whole xs) h = h
  whole_within room (broken k) h = omega arith
  whole_within room over h = omega arith
