-- The number fields of a line from their parts: a number and a space, two of these, and all three.
use Prim.Native.Nat.{ℕ, ◌+◌, ◌-◌, ◌≤◌, ◌<◌, ◌^◌}
use native.Mathlib.Omega.{arith}
use mathlib.Core.Path.{◌≡◌, refl}
use mathlib.Core.List.{List, [], ◌∷◌, ◌++◌}
use lib.ListN.{length, take, drop, set, length-append}
use mir.Syntax.{w8, w64}
use mir.Val.{Fits}
use Rattle.spec_octets.specs.WrittenDecimal.{decimal}
use Rattle.spec_octets.specs.Buffer.{Put, filled, filled_length}
use Rattle.text_buffer.proofs.Filled.{no_room_answer, no_room_octets, put_answer, put_octets, put_room}
use Rattle.text_buffer.proofs.LentRest.{rest_room, put_length, put_octet, put_more}
use Rattle.spec_line.specs.Written.{space}
use Rattle.spec_line.proofs.LineLength.{flags_short}
use Rattle.tlsa_line_head.specs.Places.{number_field, two_numbers, line_head}

number_long : (n : ℕ) → length (number_field n) ≡ length (decimal n) + 1
unfolding number_field
number_long n = length-append (decimal n) (space ∷ [])

-- A number and a space.

module _ (n : ℕ) (d : List ℕ) (room : length (number_field n) ≤ length d) where
  decimal_room : length (decimal n) ≤ length d
  decimal_room = omega (arith, number_long n)

  module _ (x : List ℕ) (w : ℕ) (told : x ≡ filled (decimal n) d) (answer : w ≡ filled_length (decimal n) d) where
    decimal_put : Put (decimal n) d x w
    decimal_put = put_room (decimal n) d decimal_room x w told answer

    same : length x ≡ length d
    same = put_length decimal_put decimal_room

    pub space_room : w < length x
    space_room = omega (arith, number_long n, same, decimal_put.count)

    pub number_fits : length d < 2 ^ 64 → Fits w64 (w + 1)
    number_fits h = record { fits = omega (arith, number_long n, decimal_put.count) }

    pub number_put : Put (number_field n) d (set x w space) (w + 1)
    unfolding number_field
    number_put = put_octet decimal_put space (number_field n) space_room refl

    pub number_same : length (set x w space) ≡ length d
    number_same = put_length number_put room

-- Two numbers.

module _ (u s : ℕ) (d : List ℕ) (room : length (two_numbers u s) ≤ length d) where
  two_long : length (number_field u) + length (number_field s) ≤ length d
  two_long = omega (arith, length-append (number_field u) (number_field s))

  pub first_room : length (number_field u) ≤ length d
  first_room = omega (arith, two_long)

  module _ (x : List ℕ) (w : ℕ) (p : Put (number_field u) d x w) where
    pub second_from : w ≤ length x
    second_from = omega (arith, two_long, p.count, put_length p first_room)

    pub second_room : length (number_field s) ≤ length (take (length x - w) (drop w x))
    second_room = rest_room x w (length (number_field s)) (omega (arith, two_long, p.count, put_length p first_room))

    module _ (y : List ℕ) (k : ℕ) (q : Put (number_field s) (take (length x - w) (drop w x)) y k) where
      pub two_fits : length d < 2 ^ 64 → Fits w64 (w + k)
      two_fits h = record { fits = omega (arith, two_long, p.count, q.count) }

      pub two_put : Put (two_numbers u s) d (take w x ++ (y ++ drop (length x - w) (drop w x))) (w + k)
      two_put = put_more p (number_field s) (two_numbers u s) refl y k q

-- All three.

head_long : (u s m : ℕ) → length (line_head u s m) ≡ length (number_field u) + length (number_field s) + length (number_field m)
head_long u s m = omega (arith, length-append (two_numbers u s) (number_field m), length-append (number_field u) (number_field s))

head_counted : (u s m : ℕ) → length (decimal u) + length (decimal s) + length (decimal m) + 3 ≡ length (line_head u s m)
head_counted u s m = omega (arith, head_long u s m, number_long u, number_long s, number_long m)

module _ (u s a b : ℕ) (e : a ≡ length (decimal u)) (f : b ≡ length (decimal s)) (p : Fits w8 u) (q : Fits w8 s) where
  pub sum_2 : Fits w64 (a + b)
  sum_2 = record { fits = omega (arith, flags_short u p.fits, flags_short s q.fits) }

  module _ (m k : ℕ) (g : k ≡ length (decimal m)) where
    pub counted : a + b + k + 3 ≡ length (line_head u s m)
    counted = omega (arith, head_counted u s m)

    module _ (r : Fits w8 m) where
      pub sum_3 : Fits w64 (a + b + k)
      sum_3 = record { fits = omega (arith, flags_short u p.fits, flags_short s q.fits, flags_short m r.fits) }

      pub sum_4 : Fits w64 (a + b + k + 3)
      sum_4 = record { fits = omega (arith, flags_short u p.fits, flags_short s q.fits, flags_short m r.fits) }

-- three octets take at most twelve
pub head_small : (u s m : ℕ) → u < 256 → s < 256 → m < 256 → length (line_head u s m) ≤ 12
head_small u s m p q r = omega (arith, head_counted u s m, flags_short u p, flags_short s q, flags_short m r)

module _ (u s m : ℕ) (d : List ℕ) (room : length (line_head u s m) ≤ length d) where
  three_long : length (two_numbers u s) + length (number_field m) ≤ length d
  three_long = omega (arith, length-append (two_numbers u s) (number_field m))

  pub two_room : length (two_numbers u s) ≤ length d
  two_room = omega (arith, three_long)

  module _ (x : List ℕ) (w : ℕ) (p : Put (two_numbers u s) d x w) where
    pub third_from : w ≤ length x
    third_from = omega (arith, three_long, p.count, put_length p two_room)

    pub third_room : length (number_field m) ≤ length (take (length x - w) (drop w x))
    third_room = rest_room x w (length (number_field m)) (omega (arith, three_long, p.count, put_length p two_room))

    module _ (y : List ℕ) (k : ℕ) (q : Put (number_field m) (take (length x - w) (drop w x)) y k) where
      pub three_fits : length d < 2 ^ 64 → Fits w64 (w + k)
      three_fits h = record { fits = omega (arith, three_long, p.count, q.count) }

      pub three_put : Put (line_head u s m) d (take w x ++ (y ++ drop (length x - w) (drop w x))) (w + k)
      three_put = put_more p (number_field m) (line_head u s m) refl y k q

-- The three numbers, or nothing if they don't fit.

module _ (u s m : ℕ) (d : List ℕ) (n : ℕ) (told : n ≡ length (line_head u s m)) where
  pub no_head_answer : length d < n → 0 ≡ filled_length (line_head u s m) d
  no_head_answer h = no_room_answer (line_head u s m) d (rw told at h)

  pub no_head_octets : length d < n → d ≡ filled (line_head u s m) d
  no_head_octets h = no_room_octets (line_head u s m) d (rw told at h)

  module _ (fits : n ≤ length d) where
    pub head_room : length (line_head u s m) ≤ length d
    head_room = rw told at fits

    module _ (x : List ℕ) (k : ℕ) (p : Put (line_head u s m) d x k) where
      pub head_answer : k ≡ filled_length (line_head u s m) d
      head_answer = put_answer (line_head u s m) d head_room x k p

      pub head_octets : x ≡ filled (line_head u s m) d
      head_octets = put_octets (line_head u s m) d head_room x k p
