-- Octets and numbers read at an offset of a slice: what is read is a part of the slice, and reading continues after it.
use Rattle.std.proofs.lemmas.Option.{none-some}
use Rattle.std.specs.Prelude.{Option, Some, None}
use Prim.Native.Nat.{ℕ, suc, ◌≤◌, ◌+◌, ◌*◌, ◌-◌}
use native.Mathlib.Numerals.{add-one}
use native.Mathlib.Omega.{arith}
use mathlib.Core.Path.{◌≡◌, refl}
use mathlib.Core.Logic.{◌↔◌}
use mathlib.Core.Bool.{Bool, true, false, cond}
use mathlib.Core.List.{List}
use lib.Dec.{leb}
use lib.ListN.{length, take, drop, get_or, length-drop}
use lib.Seq.{drop-cons, drop-drop}
use borrow.Author.Tests.{leb-true, le-leb}
use Rattle.spec_octets.specs.Reader.{Reader, pure, and_then, ◌>>=◌, octets, value_from, number}

module _ {B : Type 0} (n : ℕ) (s : List ℕ) (at next : ℕ) (e : next ≡ at + n) {b : B} {rest : List ℕ} where
  pub octets_then :
      (f : List ℕ → Reader B) →
      ((octets n >>= f) (drop at s) ≡ Some (b, rest)) ↔ ((n ≤ length s - at) × (f (take n (drop at s)) (drop next s) ≡ Some (b, rest)))
  octets_then f =
      rw (e, ← drop-drop n at s, ← length-drop at s)
      (λ h. found (leb n (length (drop at s))) refl h, λ h. rw (le-leb n (length (drop at s)) h.0) h.1)
    where
      found :
          (t : Bool) → leb n (length (drop at s)) ≡ t →
          and_then (cond {A = Option (List ℕ × List ℕ)} t (Some (take n (drop at s), drop n (drop at s))) None) f ≡ Some (b, rest) →
          (n ≤ length (drop at s)) × (f (take n (drop at s)) (drop n (drop at s)) ≡ Some (b, rest))
      found true l h = (leb-true n (length (drop at s)) l, h)
      found false l h = absurd (none-some _ h)

  pub number_then :
      (f : ℕ → Reader B) →
      ((number n >>= f) (drop at s) ≡ Some (b, rest)) ↔ ((n ≤ length s - at) × (f (value_from 0 (take n (drop at s))) (drop next s) ≡ Some (b, rest)))
  unfolding number
  number_then f = rw (value (octets n (drop at s))) (octets_then (λ a. f (value_from 0 a)))
    where
      value : (o : Option (List ℕ × List ℕ)) → and_then (and_then o (λ a. pure (value_from 0 a))) f ≡ and_then o (λ a. f (value_from 0 a))
      value None = refl
      value (Some r) = refl

-- the value of two octets
pub two_octets_at :
    (s : List ℕ) (at : ℕ) → at + 2 ≤ length s → get_or s at 0 * 256 + get_or s (at + 1) 0 ≡ value_from 0 (take 2 (drop at s))
two_octets_at s at h = rw (add-one, drop-cons s at 0 (omega arith), drop-cons s (suc at) 0 (omega arith)) (omega arith)
