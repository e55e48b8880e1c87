-- Octets mixed one by one, and the two parts of a text that its key is made of.
use Prim.Native.Nat.{ℕ, ◌+◌, ◌-◌, ◌*◌, ◌%◌, ◌≤◌, ◌<◌}
use native.Mathlib.Omega.{arith}
use mathlib.Core.Path.{◌≡◌, refl, sym, ◌∙◌}
use mathlib.Core.Bool.{Bool, true, false}
use mathlib.Core.List.{List}
use Rattle.std.specs.Prelude.{min}
use lib.Dec.{leb}
use lib.ListN.{length, take, drop, get_or, drop_of_length-le}
use lib.Seq.{take_all}
use borrow.Author.Tests.{leb-true, leb-false}
use Rattle.spec_limits.specs.Limits.{max_records}
use Rattle.spec_octets.specs.Octets.{lower}
use Rattle.spec_octets.proofs.Walks.{drop_step, rest_whole}
use Rattle.book_places.specs.Keys.{mixed, key_of}

module _ (h : ℕ) (s : List ℕ) (m i : ℕ) (left : mixed h s ≡ mixed m (drop i s)) where
  pub mixed_on : (x j : ℕ) → i < length s → x ≡ lower (get_or s i 0) → j ≡ i + 1 → mixed h s ≡ mixed ((31 * m + x) % 65536) (drop j s)
  mixed_on x j k e next = left ∙ rw (drop_step 0 s i j k next, e)

  pub mixed_end : length s ≤ i → m ≡ mixed h s
  mixed_end k = sym (left ∙ rw (drop_of_length-le s k))

module _ (x : List ℕ) where
  first_octets : (n : ℕ) → n ≡ min (length x) 10 → take n x ≡ take 10 x
  first_octets n e = by (leb 10 (length x)) refl
    where
      by : (t : Bool) → leb 10 (length x) ≡ t → take n x ≡ take 10 x
      by true h = let ten : n ≡ 10 = omega (arith, leb-true 10 (length x) h) in rw ten
      by false h = take_all n x (omega (arith, leb-false 10 (length x) h)) ∙ sym (take_all 10 x (omega (arith, leb-false 10 (length x) h)))

  pub key_told :
      (n last m k : ℕ) → n ≡ min (length x) 10 → last ≡ length x - 6 → m ≡ mixed (length x % 65536) (take n x) →
      k ≡ mixed m (take (length x - last) (drop last x)) → k % max_records ≡ key_of x
  unfolding key_of
  key_told n last m k en elast em ek = rw (ek, em, first_octets n en, rest_whole x last, elast)
