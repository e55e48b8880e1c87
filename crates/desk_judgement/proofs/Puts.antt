-- Pieces of a line written one after the other.
use Prim.Native.Nat.{ℕ, ◌+◌, ◌-◌, ◌^◌, ◌≤◌, ◌<◌}
use native.Mathlib.Omega.{arith}
use mathlib.Core.Path.{◌≡◌, refl}
use mathlib.Core.List.{List, ◌++◌, append_assoc}
use lib.ListN.{length, take, drop}
use mir.Syntax.{w64}
use mir.Val.{Fits}
use Rattle.spec_octets.specs.Buffer.{Put, filled, filled_length}
use Rattle.text_buffer.proofs.Filled.{put_room}
use Rattle.text_buffer.proofs.LentRest.{rest_room, put_length, put_more}
use Rattle.spec_octets.specs.WrittenDecimal.{decimal}
use Rattle.text_decimal.proofs.DecimalPieces.{decimal_few}

-- A text and a number.
module _ (first d x : List ℕ) (w : ℕ) (put : x ≡ filled first d) (count : w ≡ filled_length first d) (room : length first + 20 ≤ length d) where
  first_put : Put first d x w
  first_put = put_room first d (omega arith) x w put count

  first_length : length x ≡ length d
  first_length = put_length first_put (omega arith)

  pub number_from : w ≤ length x
  number_from = omega (arith, first_put.count, first_length)

  abbrev lent : List ℕ
  lent = take (length x - w) (drop w x)

  module _
      (y : List ℕ) (n r : ℕ) (told : y ≡ filled (decimal n) (take (length x - w) (drop w x)))
      (answer : r ≡ filled_length (decimal n) (take (length x - w) (drop w x))) (small : Fits w64 n) where
    digits_put : Put (decimal n) lent y r
    digits_put =
        let few = decimal_few n small in
        put_room (decimal n) lent (rest_room x w (length (decimal n)) (omega (arith, first_put.count, first_length))) y r told answer

    pub number_few : w + r ≤ length first + 20
    number_few = omega (arith, first_put.count, digits_put.count, decimal_few n small)

    pub number_fits : length d < 2 ^ 64 → Fits w64 (w + r)
    number_fits h = record { fits = omega (arith, number_few) }

    pub number_put : Put (first ++ decimal n) d (take w x ++ (y ++ drop (length x - w) (drop w x))) (w + r)
    number_put = put_more first_put (decimal n) (first ++ decimal n) refl y r digits_put

-- Another text and number behind what is written.
pub more_put :
    (e d x second y : List ℕ) (b w r : ℕ) → Put e d x w → Put (second ++ decimal b) (take (length x - w) (drop w x)) y r →
    Put (e ++ second ++ decimal b) d (take w x ++ (y ++ drop (length x - w) (drop w x))) (w + r)
more_put e d x second y b w r p q = put_more p (second ++ decimal b) (e ++ second ++ decimal b) (append_assoc e second (decimal b)) y r q
