-- The loop that writes a digest: words of n octets, one after the other.
use Prim.Native.Nat.{ℕ, ◌+◌, ◌-◌, ◌*◌, ◌^◌, ◌≤◌, ◌<◌}
use native.Mathlib.Nat.{mul-le-mul_right}
use native.Mathlib.Omega.{arith}
use mathlib.Core.Path.{◌≡◌, refl, sym, ap, ◌∙◌}
use mathlib.Core.List.{List, ◌++◌}
use lib.ListN.{length, take, drop, get_or}
use mir.Syntax.{w64}
use mir.Val.{Fits}
use Rattle.spec_octets.specs.Reader.{in_octets}
use Rattle.spec_octets.specs.Buffer.{Put, filled, filled_length}
use Rattle.spec_octets.proofs.Numbers.{length_in_octets}
use Rattle.text_buffer.proofs.LentRest.{put_length, rest_room}
use Rattle.spec_digest.specs.Family.{State, Member, state_words, hash_value, digest}
use Rattle.digest_octets.proofs.NumberWrites.{written_words, number_room, words_put_turn, digest_put}

-- The first i words of ws are written, in w octets at the front of d, which is now x.
pub record Written (n : ℕ) (ws d x : List ℕ) (i w : ℕ) : Type 0 where
  pub place : w ≡ i * n
  pub long : length x ≡ length d
  pub put : Put (written_words n (take i ws)) d x w

pub written_none : (n : ℕ) (ws d : List ℕ) → Written n ws d d 0 0
written_none n ws d = record { place = omega arith; long = refl; put = record { count = refl; octets = refl } }

module _ (n : ℕ) (ws d x : List ℕ) (i w : ℕ) (p : Written n ws d x i w) where
  module _ (h : i < length ws) (room : length ws * n ≤ length d) where
    within : w + n ≤ length x
    within = omega (arith, p.place, p.long, mul-le-mul_right n h)

    pub word_from : w ≤ length x
    word_from = omega (arith, within)

    module _ (y : List ℕ) (r : ℕ) (octets : y ≡ filled (in_octets n (get_or ws i 0)) (take (length x - w) (drop w x)))
        (answer : r ≡ filled_length (in_octets n (get_or ws i 0)) (take (length x - w) (drop w x))) where
      count : r ≡ n
      count =
          (number_room (get_or ws i 0) n (take (length x - w) (drop w x)) y r (rest_room x w n within) octets answer).count
          ∙ length_in_octets n (get_or ws i 0)

      more : Put (written_words n (take (i + 1) ws)) d (take w x ++ (y ++ drop (length x - w) (drop w x))) (w + r)
      more = words_put_turn n ws d x i w y r p.put h within octets answer

      pub word_fits : length d < 2 ^ 64 → Fits w64 (w + r)
      word_fits under = record { fits = omega (arith, within, count, p.long) }

      pub word_written : Written n ws d (take w x ++ (y ++ drop (length x - w) (drop w x))) (i + 1) (w + r)
      word_written = record {
        place = omega (arith, p.place, count);
        long = put_length more (omega (arith, more.count, within, count, p.long));
        put = more;
      }

-- eight words fill the digest
pub digest_written :
    (n : ℕ) (m : Member) (s d x : List ℕ) (v : State) (i w : ℕ) → Written n (state_words v) d x i w → 8 ≤ i → i ≤ 8 → length d ≡ 8 * n →
    v ≡ hash_value m s → n ≡ m.word_octets → x ≡ digest m s
digest_written n m s d x v i w p all most full e same =
    digest_put n m s d x v i w p.put all e same (p.place ∙ ap (λ (j : ℕ). j * n) eight ∙ sym full)
  where
    eight : i ≡ 8
    eight = omega arith
