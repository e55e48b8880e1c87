-- Kept texts by their length.
use Prim.Native.Nat.{ℕ, ◌≤◌, ◌<◌}
use native.Mathlib.Omega.{arith}
use mathlib.Core.Path.{◌≡◌, refl}
use mathlib.Core.Bool.{Bool, true, false, cond}
use mathlib.Core.List.{[]}
use lib.Dec.{leb}
use lib.ListN.{length, take}
use borrow.Author.Tests.{le-leb, lt-leb, leb-true}
use Rattle.spec_session.specs.declared.Text.{Text}
use Rattle.spec_session.specs.Sessions.{held}
use Rattle.session_kept.specs.Places.{held_length}

pub in_room : (t : Text) → length t.octets ≡ 256 → t.length ≤ 256 → t.length ≡ held_length t
unfolding held_length
in_room t e h = rw (e, le-leb t.length 256 h)

pub no_room : (t : Text) → length t.octets ≡ 256 → 256 < t.length → 0 ≡ held_length t
unfolding held_length
no_room t e h = rw (e, lt-leb t.length 256 h)

-- the part of the octets that counts
module _ (t : Text) (e : ℕ) (f : e ≡ held_length t) where
  pub held_inside : e ≤ length t.octets
  unfolding held_length
  held_inside = go (leb t.length (length t.octets)) refl f
    where
      go : (b : Bool) → leb t.length (length t.octets) ≡ b → e ≡ cond b t.length 0 → e ≤ length t.octets
      go true h g = omega (arith, leb-true t.length (length t.octets) h)
      go false h g = omega arith

  -- the same, in the array of a kept text
  pub held_in_array : length t.octets ≡ 256 → e ≤ 256
  held_in_array k = omega (arith, held_inside, k)

  pub held_taken : take e t.octets ≡ held t
  unfolding held_length held
  held_taken = rw f (go (leb t.length (length t.octets)))
    where
      go : (b : Bool) → take (cond b t.length 0) t.octets ≡ cond b (take t.length t.octets) []
      go true = refl
      go false = refl
