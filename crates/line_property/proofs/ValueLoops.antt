-- Steps of a loop that writes a value octet by octet: those before the current offset are written, and the remaining ones fit.
use Prim.Native.Nat.{ℕ, ◌+◌, ◌-◌, ◌≤◌, ◌<◌, ◌^◌}
use native.Mathlib.Numerals.{add-one}
use native.Mathlib.Omega.{arith}
use mathlib.Core.Path.{◌≡◌, refl}
use mathlib.Core.List.{List, [], ◌∷◌, ◌++◌, append_assoc, append-nil, map-append}
use lib.ListN.{length, take, drop, get_or, length-append}
use lib.Seq.{take-suc, take_all}
use mir.Syntax.{w64}
use mir.Val.{Fits}
use Rattle.spec_octets.specs.Lists.{flatten}
use Rattle.spec_octets.proofs.Walks.{drop_step}
use Rattle.spec_octets.specs.Buffer.{Put, filled, filled_length}
use Rattle.text_buffer.proofs.Filled.{put_room}
use Rattle.text_buffer.proofs.LentRest.{rest_room, put_more}
use Rattle.spec_line.specs.Written.{escaped}
use Rattle.line_property.specs.Places.{escaped_value}

flatten_append : (a b : List (List ℕ)) → flatten (a ++ b) ≡ flatten a ++ flatten b
flatten_append [] b = refl
flatten_append (x ∷ a) b = rw (flatten_append a b, append_assoc)

module _ (v : List ℕ) (i : ℕ) (h : i < length v) where
  value_step : escaped_value (take (i + 1) v) ≡ escaped_value (take i v) ++ escaped (get_or v i 0)
  value_step =
      rw (add-one, take-suc v i 0 h, map-append escaped (take i v) (get_or v i 0 ∷ []), flatten_append, append-nil)

  pub left_step : length (escaped_value (drop i v)) ≡ length (escaped (get_or v i 0)) + length (escaped_value (drop (i + 1) v))
  left_step = rw (drop_step 0 v i (i + 1) h refl, length-append)

  module _ (x : List ℕ) (w : ℕ) (room : w + length (escaped_value (drop i v)) ≤ length x) where
    abbrev lent : List ℕ
    lent = take (length x - w) (drop w x)

    octet_room : length (escaped (get_or v i 0)) ≤ length lent
    octet_room = rest_room x w (length (escaped (get_or v i 0))) (omega (arith, left_step))

    module _ (y : List ℕ) (n : ℕ) (told : y ≡ filled (escaped (get_or v i 0)) lent) (answer : n ≡ filled_length (escaped (get_or v i 0)) lent) where
      octet_put : Put (escaped (get_or v i 0)) lent y n
      octet_put = put_room (escaped (get_or v i 0)) lent octet_room y n told answer

      pub sum_fits : (d : List ℕ) → length x ≡ length d → length d < 2 ^ 64 → Fits w64 (w + n)
      sum_fits d same l = record { fits = omega (arith, left_step, octet_put.count) }

      pub room_turn : (z : List ℕ) → length z ≡ length x → w + n + length (escaped_value (drop (i + 1) v)) ≤ length z
      room_turn z e = omega (arith, left_step, octet_put.count)

      pub value_turn :
          (d : List ℕ) → Put (escaped_value (take i v)) d x w →
          Put (escaped_value (take (i + 1) v)) d (take w x ++ (y ++ drop (length x - w) (drop w x))) (w + n)
      value_turn d p = put_more p (escaped (get_or v i 0)) (escaped_value (take (i + 1) v)) value_step y n octet_put

pub value_end : (v d x : List ℕ) (w i : ℕ) → Put (escaped_value (take i v)) d x w → length v ≤ i → Put (escaped_value v) d x w
value_end v d x w i p h = rw (take_all i v h) at p
