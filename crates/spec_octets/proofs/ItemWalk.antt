-- A loop that reads items from a slice: with k items read, reading on from offset `at` gives the result for the whole slice.
use Rattle.std.specs.Prelude.{Option, None, Some}
use Prim.Native.Nat.{ℕ, suc, ◌≤◌, ◌<◌, ◌+◌, ◌-◌}
use native.Mathlib.Nat.{sub-zero, sub_self, zero-add, add-zero}
use native.Mathlib.Omega.{arith}
use mathlib.Core.Path.{◌≡◌, refl, ap, ◌∙◌}
use mathlib.Core.Logic.{◌≢◌}
use mathlib.Core.List.{List, []}
use lib.ListN.{length, drop, length-drop, drop_of_length-le}
use Rattle.spec_octets.specs.Reader.{Reader}
use Rattle.spec_octets.specs.Items.{Items, whole, broken, over, follow, before, items, item_fault}
use Rattle.spec_octets.proofs.ItemLaws.{items_end, items_over, items_step}

module _ {A R : Type 0} (read : Reader A) (bad : ℕ → R) (many : R) (limit : ℕ) (s : List ℕ) where
  -- what is wrong with the items that are left from `at` on, of which at most limit - k may follow, numbered from k
  abbrev pub left_fault : ℕ → ℕ → Option R
  left_fault k at = item_fault (λ j. bad (k + j)) many (items read (limit - k) (drop at s))

  -- the loop's invariant
  pub record Walked (k at : ℕ) : Type 0 where
    pub within : k ≤ limit
    pub same : item_fault bad many (items read limit s) ≡ left_fault k at

  pub walk_start : (k at : ℕ) → k ≡ 0 → at ≡ 0 → Walked k at
  walk_start k at e f = record { within = omega arith; same = rw (e, f, sub-zero) (go (items read limit s)) }
    where
      go : (i : Items A) → item_fault bad many i ≡ item_fault (λ j. bad (0 + j)) many i
      go (whole xs) = refl
      go (broken j) = rw zero-add
      go over = refl

module _ {A R : Type 0} {read : Reader A} {bad : ℕ → R} {many : R} {limit : ℕ} {s : List ℕ} {k at : ℕ} (w : Walked read bad many limit s k at) where
  pub walk_end : length s ≤ at → item_fault bad many (items read limit s) ≡ None
  walk_end h = w.same ∙ rw (drop_of_length-le s h, items_end read)

  module _ (h : at < length s) where
    left : drop at s ≢ []
    left e = absurd (omega (arith, ap length e, length-drop at s))

    pub walk_over : k ≡ limit → item_fault bad many (items read limit s) ≡ Some many
    walk_over e = w.same ∙ rw (e, sub_self, items_over read (drop at s) left)

    module _ (n : k ≢ limit) where
      step : left_fault read bad many limit s k at ≡ item_fault (λ j. bad (k + j)) many (before (read (drop at s)) (items read (limit - (k + 1))))
      step =
          let e : limit - k ≡ suc (limit - (k + 1)) = omega arith in
          rw (e, items_step read (limit - (k + 1)) (drop at s) left)

      pub walk_broken : read (drop at s) ≡ None → item_fault bad many (items read limit s) ≡ Some (bad k)
      walk_broken e = w.same ∙ step ∙ rw (e, add-zero)

      pub walk_on :
          (a : A) (k' next : ℕ) → read (drop at s) ≡ Some (a, drop next s) → k' ≡ k + 1 → Walked read bad many limit s k' next
      walk_on a k' next e f = record {
        within = omega arith;
        same = w.same ∙ step ∙ rw (e, f) (go (items read (limit - (k + 1)) (drop next s)));
      }
        where
          go : (i : Items A) → item_fault (λ j. bad (k + j)) many (follow a i) ≡ item_fault (λ j. bad (k + 1 + j)) many i
          go (whole xs) = refl
          go (broken j) = ap (λ m. Some (bad m)) (omega arith)
          go over = refl
