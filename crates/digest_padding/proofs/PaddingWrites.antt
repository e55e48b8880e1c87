-- Writing the padding: the octet 128 and the zeros from the front, the length from its last octet.
use Prim.Native.Nat.{ℕ, zero, suc, ◌+◌, ◌-◌, ◌*◌, ◌/◌, ◌%◌, ◌^◌, ◌≤◌, ◌<◌}
use native.Mathlib.Nat.{mod-add-mod, div-add-mod', mod-lt}
use native.Mathlib.Omega.{arith}
use mathlib.Core.Path.{◌≡◌, refl, sym, ap, ap₂, ◌∙◌}
use mathlib.Core.List.{List, ◌∷◌, ◌++◌}
use lib.ListN.{length, take, drop, set, replicate, length-append, length-replicate, length-drop, length-set}
use borrow.Author.Tests.{le-leb}
use mir.Syntax.{w64}
use mir.Val.{Fits}
use Rattle.spec_octets.specs.Reader.{in_octets}
use Rattle.spec_octets.specs.Buffer.{Put, filled, filled_length}
use Rattle.spec_octets.proofs.Numbers.{length_in_octets}
use Rattle.spec_octets.proofs.Walks.{rest_whole}
use Rattle.digest_octets.proofs.NumberWrites.{octet_before}
use Rattle.text_buffer.proofs.LentRest.{put_more, put_length, rest_room}
use Rattle.text_buffer.proofs.Filled.{no_room_answer, no_room_octets, put_room, put_answer, put_octets}
use Rattle.spec_digest.specs.Padding.{zeros, padding}
use Rattle.digest_padding.specs.Tails.{tail}

pub remainder_below : (l n : ℕ) → 1 ≤ n → l % (16 * n) < 16 * n
remainder_below l n h = mod-lt l (omega arith)

-- the remainder is taken first, so that no sum wraps
pub zeros_counted : (n l r f : ℕ) → r ≡ l % (16 * n) → f ≡ (r + 2 * n) % (16 * n) → 16 * n - 1 - f ≡ zeros n l
unfolding zeros
zeros_counted n l r f e g = rw (g, e, mod-add-mod)

-- the length in bits: its last octet, and a 32nd of the length before it
pub length_put :
    (l k : ℕ) (d x : List ℕ) → 1 ≤ k → k ≤ length d → x ≡ filled (in_octets (k - 1) (l / 32)) (set d (k - 1) (l % 32 * 8)) →
    Put (in_octets k (8 * l)) d x k
length_put l zero d x h room e = absurd (omega arith)
length_put l (suc j) d x h room e =
    let before : suc j - 1 ≡ j = omega arith in
    let high : 8 * l / 256 ≡ l / 32 = omega arith in
    let low : 8 * l % 256 ≡ l % 32 * 8 = omega arith in
    let front = put_room (in_octets j (l / 32)) (set d j (l % 32 * 8)) (rw (length_in_octets, length-set) (omega arith)) x
    (filled_length (in_octets j (l / 32)) (set d j (l % 32 * 8))) (rw before at e) refl in
    record {
      count = sym (length_in_octets (suc j) (8 * l));
      octets =
          front.octets
          ∙ ap (λ (i : ℕ). in_octets j (l / 32) ++ drop i (set d j (l % 32 * 8))) (length_in_octets j (l / 32))
          ∙ sym (octet_before j (8 * l) d room ∙ ap₂ (λ (a b : ℕ). in_octets j a ++ drop j (set d j b)) high low)
          ∙ ap (λ (i : ℕ). in_octets (suc j) (8 * l) ++ drop i d) (sym (length_in_octets (suc j) (8 * l)));
    }

-- the two parts of the padding
module _ (n l count : ℕ) (e : count ≡ zeros n l) where
  pub padding_length : length (padding n l) ≡ 1 + count + 2 * n
  unfolding padding
  padding_length = rw (length-append, length-replicate, length_in_octets, ← e) (omega arith)

  module _ (d : List ℕ) (room : length (padding n l) ≤ length d) where
    pub marker_fits : 1 + count ≤ length d
    marker_fits = omega (arith, padding_length)

    module _ (x : List ℕ) (w : ℕ) (p : Put (128 ∷ replicate count 0) d x w) where
      marker_long : w ≡ 1 + count
      marker_long = p.count ∙ rw length-replicate (omega arith)

      same_long : length x ≡ length d
      same_long = put_length p (rw length-replicate (omega (arith, padding_length)))

      pub length_from : w ≤ length x
      length_from = omega (arith, marker_long, same_long, padding_length)

      pub length_room : (k : ℕ) → k ≡ 2 * n → k ≤ length (take (length x - w) (drop w x))
      length_room k f = rest_room x w k (omega (arith, marker_long, same_long, padding_length))

      pub padding_fits : (k : ℕ) → k ≡ 2 * n → length d < 2 ^ 64 → Fits w64 (w + k)
      padding_fits k f h = record { fits = omega (arith, marker_long, padding_length) }

      pub padding_put :
          (k : ℕ) (y : List ℕ) → k ≡ 2 * n → Put (in_octets k (8 * l)) (take (length x - w) (drop w x)) y k →
          Put (padding n l) d (take w x ++ (y ++ drop (length x - w) (drop w x))) (w + k)
      unfolding padding
      padding_put k y f q = put_more p (in_octets k (8 * l)) (128 ∷ (replicate (zeros n l) 0 ++ in_octets (2 * n) (8 * l))) (rw (e, f)) y k q

-- the message's last octets, then the padding
module _ (n : ℕ) (s : List ℕ) (rest : ℕ) (left : rest ≡ length s % (16 * n)) where
  abbrev last : List ℕ
  last = take (length s - (length s - rest)) (drop (length s - rest) s)

  from_is : length s - rest ≡ length s / (16 * n) * (16 * n)
  from_is = omega (arith, div-add-mod' (length s) (16 * n))

  tail_is : tail n s ≡ last ++ padding n (length s)
  unfolding tail
  tail_is = rw (rest_whole s (length s - rest), from_is)

  last_long : length last ≡ rest
  last_long = rw (rest_whole s (length s - rest), length-drop (length s - rest) s) (omega (arith, div-add-mod' (length s) (16 * n)))

  module _ (count : ℕ) (e : count ≡ zeros n (length s)) where
    tail_long : length (tail n s) ≡ rest + 1 + count + 2 * n
    tail_long = rw (tail_is, length-append, last_long, padding_length n (length s) count e) (omega arith)

    module _ (o : ℕ) (width : n ≡ o) (d : List ℕ) where
      module _ (short : length d < rest + 1 + count + 2 * n) where
        pub no_tail_answer : 0 ≡ filled_length (tail o s) d
        no_tail_answer = rw (← width) (no_room_answer (tail n s) d (omega (arith, tail_long)))

        pub no_tail_octets : d ≡ filled (tail o s) d
        no_tail_octets = rw (← width) (no_room_octets (tail n s) d (omega (arith, tail_long)))

      module _ (room : rest + 1 + count + 2 * n ≤ length d) (x : List ℕ) (r : ℕ) (p : Put (tail n s) d x r) where
        pub tail_answer : r ≡ filled_length (tail o s) d
        tail_answer = rw (← width) (put_answer (tail n s) d (omega (arith, tail_long)) x r p)

        pub tail_octets : x ≡ filled (tail o s) d
        tail_octets = rw (← width) (put_octets (tail n s) d (omega (arith, tail_long)) x r p)

module _ (s : List ℕ) (rest : ℕ) (d x : List ℕ) (w : ℕ)
    (octets : x ≡ filled (take (length s - (length s - rest)) (drop (length s - rest) s)) d)
    (answer : w ≡ filled_length (take (length s - (length s - rest)) (drop (length s - rest) s)) d) (n : ℕ) (left : rest ≡ length s % (16 * n))
    (count : ℕ) (e : count ≡ zeros n (length s)) (room : rest + 1 + count + 2 * n ≤ length d) where
  last_put : Put (last n s rest left) d x w
  last_put = put_room (last n s rest left) d (omega (arith, last_long n s rest left)) x w octets answer

  same_length : length x ≡ length d
  same_length = put_length last_put (omega (arith, last_long n s rest left))

  w_is : w ≡ rest
  w_is = last_put.count ∙ last_long n s rest left

  pub padding_from : w ≤ length x
  padding_from = omega (arith, w_is, same_length)

  pub padding_room : length (padding n (length s)) ≤ length (take (length x - w) (drop w x))
  padding_room = rest_room x w (length (padding n (length s))) (omega (arith, w_is, same_length, padding_length n (length s) count e))

  module _ (y : List ℕ) (k : ℕ) (q : Put (padding n (length s)) (take (length x - w) (drop w x)) y k) where
    pub parts_put : Put (tail n s) d (take w x ++ (y ++ drop (length x - w) (drop w x))) (w + k)
    parts_put = put_more last_put (padding n (length s)) (tail n s) (tail_is n s rest left) y k q

pub parts_fit :
    (s d : List ℕ) (rest w : ℕ) → w ≡ filled_length (take (length s - (length s - rest)) (drop (length s - rest) s)) d → (n : ℕ) →
    rest ≡ length s % (16 * n) → (count : ℕ) → count ≡ zeros n (length s) → rest + 1 + count + 2 * n ≤ length d → (g y : List ℕ) (k : ℕ) →
    Put (padding n (length s)) g y k → length d < 2 ^ 64 → Fits w64 (w + k)
unfolding filled_length
parts_fit s d rest w answer n left count e room g y k q h = record {
  fits = omega (arith, rw (le-leb (length (last n s rest left)) (length d) fit) at answer, last_long n s rest left, q.count, padding_length n (length s) count e);
}
  where
    fit : length (last n s rest left) ≤ length d
    fit = omega (arith, last_long n s rest left)
