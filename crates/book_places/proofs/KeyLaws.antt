-- Texts that are the same, letter case ignored, have one key.
use Prim.Native.Nat.{ℕ, zero, suc, ◌+◌, ◌-◌, ◌*◌, ◌%◌, ◌<◌}
use native.Mathlib.Nat.{mod-lt}
use native.Mathlib.Omega.{arith}
use mathlib.Core.Path.{◌≡◌, refl, sym, ap, ◌∙◌}
use mathlib.Core.Bool.{true}
use mathlib.Core.List.{List, [], ◌∷◌, nil≢cons, cons≢nil}
use lib.ListN.{length, take, drop, length-map}
use Rattle.spec_limits.specs.Limits.{max_records}
use Rattle.spec_octets.specs.Octets.{lower, lowered, equal_ignoring_case}
use Rattle.spec_octets.proofs.Texts.{same_text}
use Rattle.book_places.specs.Keys.{mixed, key_of}
use Rattle.book_places.specs.Theorems.{SameTextSameKey}

-- a and b are the same in small letters
abbrev Alike : List ℕ → List ℕ → Type 0
Alike a b = lowered a ≡ lowered b

alike_take : (n : ℕ) (a b : List ℕ) → Alike a b → Alike (take n a) (take n b)
alike_take zero a b e = refl
alike_take (suc n) [] [] e = refl
alike_take (suc n) [] (y ∷ b) e = absurd (nil≢cons e)
alike_take (suc n) (x ∷ a) [] e = absurd (cons≢nil e)
alike_take (suc n) (x ∷ a) (y ∷ b) e = let rest = alike_take n a b (cc) in cc

alike_drop : (n : ℕ) (a b : List ℕ) → Alike a b → Alike (drop n a) (drop n b)
alike_drop zero a b e = e
alike_drop (suc n) [] [] e = refl
alike_drop (suc n) [] (y ∷ b) e = absurd (nil≢cons e)
alike_drop (suc n) (x ∷ a) [] e = absurd (cons≢nil e)
alike_drop (suc n) (x ∷ a) (y ∷ b) e = alike_drop n a b (cc)

alike_length : (a b : List ℕ) → Alike a b → length a ≡ length b
alike_length a b e = sym (length-map a lower) ∙ ap length e ∙ length-map b lower

alike_mixed : (h : ℕ) (a b : List ℕ) → Alike a b → mixed h a ≡ mixed h b
alike_mixed h [] [] e = refl
alike_mixed h [] (y ∷ b) e = absurd (nil≢cons e)
alike_mixed h (x ∷ a) [] e = absurd (cons≢nil e)
alike_mixed h (x ∷ a) (y ∷ b) e = let first : lower x ≡ lower y = cc in rw first (alike_mixed ((31 * h + lower y) % 65536) a b (cc))

alike_key : (a b : List ℕ) → Alike a b → key_of a ≡ key_of b
unfolding key_of
alike_key a b e =
    rw (
      alike_length a b e,
      alike_mixed (length b % 65536) (take 10 a) (take 10 b) (alike_take 10 a b e),
      alike_mixed _ (drop (length b - 6) a) (drop (length b - 6) b) (alike_drop (length b - 6) a b e),
    )

some_records : 0 < max_records
unfolding max_records
some_records = omega arith

pub key_below : (x : List ℕ) → key_of x < max_records
unfolding key_of
key_below x = mod-lt _ some_records

pub same_key : (a b : List ℕ) → equal_ignoring_case a b ≡ true → key_of a ≡ key_of b
same_key a b e = alike_key a b ((same_text a b).0 e)

pub same_text_same_key : SameTextSameKey
same_text_same_key = (same_key, key_below)
