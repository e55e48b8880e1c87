-- Texts as they are kept, and read back.
use Prim.Native.Nat.{ℕ, zero, suc, ◌+◌, ◌-◌, ◌≤◌}
use native.Mathlib.Omega.{arith}
use native.Mathlib.Nat.{le_of_suc-le-suc, not-suc-le-zero}
use mathlib.Core.Path.{◌≡◌, refl, ap, ◌∙◌}
use mathlib.Core.List.{List, ◌∷◌, ◌++◌}
use lib.ListN.{length, take, replicate, length-append, length-replicate}
use lib.Seq.{length-take-le, take-append-add, take-append_seam}
use borrow.Author.Tests.{le-leb}
use Rattle.spec_session.specs.Sessions.{max_text_octets, held, text_of}
use Rattle.spec_session.specs.Theorems.{TextsKept}

take_zeros : (k m : ℕ) → k ≤ m → take {A = ℕ} k (replicate m 0) ≡ replicate k 0
take_zeros zero m h = refl
take_zeros (suc k) zero h = absurd (not-suc-le-zero h)
take_zeros (suc k) (suc m) h = ap (◌∷◌ 0) (take_zeros k m (le_of_suc-le-suc h))

module _ (m : ℕ) (s : List ℕ) where
  abbrev kept : List ℕ
  kept = take m (s ++ replicate m 0)

  kept_length : length kept ≡ m
  kept_length = length-take-le m (s ++ replicate m 0) (rw (length-append s (replicate m 0), length-replicate {A = ℕ} m 0) (omega arith))

  kept_octets : length s ≤ m → kept ≡ s ++ replicate (m - length s) 0
  kept_octets h =
      let k : m ≡ length s + (m - length s) = omega arith in
      ap (λ i. take i (s ++ replicate m 0)) k ∙ take-append-add s (replicate m 0) (m - length s)
      ∙ ap (λ t. s ++ t) (take_zeros (m - length s) m (omega arith))

  kept_front : length s ≤ m → take (length s) kept ≡ s
  kept_front h = rw (kept_octets h) (take-append_seam s (replicate (m - length s) 0))

pub texts_kept : TextsKept
unfolding held text_of
texts_kept s = (
  kept_length max_text_octets s,
  λ h. (
    rw (kept_length max_text_octets s, le-leb (length s) max_text_octets h) (kept_front max_text_octets s h),
    kept_octets max_text_octets s h,
  ),
)
