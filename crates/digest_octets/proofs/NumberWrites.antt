-- A number written from its last octet on, and words written one after the other.
use Prim.Native.Nat.{ℕ, suc, ◌+◌, ◌-◌, ◌/◌, ◌%◌, ◌≤◌, ◌<◌}
use native.Mathlib.Numerals.{add-one}
use native.Mathlib.Omega.{arith}
use mathlib.Core.Path.{◌≡◌, refl, sym, ap, ◌∙◌}
use mathlib.Core.List.{List, [], ◌∷◌, ◌++◌, map, append_assoc, append-nil, map-append}
use lib.ListN.{length, take, drop, get_or, set, drop_of_length-le}
use lib.Seq.{set_split, drop_at, length-take-le, take-suc, take_all}
use Rattle.spec_octets.specs.Lists.{flatten}
use Rattle.spec_octets.specs.Reader.{in_octets}
use Rattle.spec_octets.specs.Buffer.{Put, filled, filled_length}
use Rattle.spec_octets.proofs.Numbers.{length_in_octets}
use Rattle.text_buffer.proofs.LentRest.{put_more, rest_room}
use Rattle.text_buffer.proofs.Filled.{no_room_answer, no_room_octets, put_room, put_answer, put_octets}
use Rattle.spec_digest.specs.Family.{State, Member, state_words, hash_value, digest}

-- one octet of a number, before those that are written
pub octet_before :
    (j v : ℕ) (x : List ℕ) → j < length x → in_octets (suc j) v ++ drop (suc j) x ≡ in_octets j (v / 256) ++ drop j (set x j (v % 256))
octet_before j v x h =
    append_assoc (in_octets j (v / 256)) (v % 256 ∷ []) (drop (suc j) x)
    ∙ ap (λ (l : List ℕ). in_octets j (v / 256) ++ l)
    (sym (ap (drop j) (set_split x j (v % 256) h) ∙ drop_at (take j x) (v % 256 ∷ drop (suc j) x) j (length-take-le j x (omega arith))))

module _ (n k : ℕ) (d : List ℕ) where
  module _ (short : length d < k) where
    pub no_number_answer : 0 ≡ filled_length (in_octets k n) d
    no_number_answer = no_room_answer (in_octets k n) d (rw length_in_octets short)

    pub no_number_octets : d ≡ filled (in_octets k n) d
    no_number_octets = no_room_octets (in_octets k n) d (rw length_in_octets short)

  module _ (x : List ℕ) (i v : ℕ) (left : in_octets k n ++ drop k d ≡ in_octets i v ++ drop i x) where
    pub number_turn :
        0 < i → i ≤ k → k ≤ length d → length x ≡ length d →
        in_octets k n ++ drop k d ≡ in_octets (i - 1) (v / 256) ++ drop (i - 1) (set x (i - 1) (v % 256))
    number_turn h under room same =
        let next : i ≡ suc (i - 1) = omega arith in
        left ∙ ap (λ (j : ℕ). in_octets j v ++ drop j x) next ∙ octet_before (i - 1) v x (omega arith)

    module _ (none : i ≤ 0) (room : k ≤ length d) where
      number_put : Put (in_octets k n) d x k
      number_put = let e : i ≡ 0 = omega arith in record {
        count = sym (length_in_octets k n);
        octets = rw length_in_octets (sym (left ∙ rw e));
      }

      fits : length (in_octets k n) ≤ length d
      fits = rw length_in_octets room

      pub number_answer : k ≡ filled_length (in_octets k n) d
      number_answer = put_answer (in_octets k n) d fits x k number_put

      pub number_octets : x ≡ filled (in_octets k n) d
      number_octets = put_octets (in_octets k n) d fits x k number_put

-- for callers: with room, the number is put
pub number_room :
    (n k : ℕ) (d x : List ℕ) (r : ℕ) → k ≤ length d → x ≡ filled (in_octets k n) d → r ≡ filled_length (in_octets k n) d → Put (in_octets k n) d x r
number_room n k d x r room octets answer = put_room (in_octets k n) d (rw length_in_octets room) x r octets answer

-- words of n octets, one after the other
module _ (n : ℕ) where
  abbrev pub written_words : List ℕ → List ℕ
  written_words ws = flatten (map (in_octets n) ws)

  flatten_append : (a b : List (List ℕ)) → flatten (a ++ b) ≡ flatten a ++ flatten b
  flatten_append [] b = refl
  flatten_append (x ∷ a) b = ap (λ (l : List ℕ). x ++ l) (flatten_append a b) ∙ sym (append_assoc x (flatten a) (flatten b))

  one_more_lem : (ws : List ℕ) (i : ℕ) → i < length ws → written_words (take (i + 1) ws) ≡ written_words (take i ws) ++ in_octets n (get_or ws i 0)
  one_more_lem ws i h =
      rw (add-one, take-suc ws i 0 h, map-append (in_octets n) (take i ws) (get_or ws i 0 ∷ []), flatten_append)
      (ap (λ (l : List ℕ). written_words (take i ws) ++ l) (append-nil (in_octets n (get_or ws i 0))))

  pub words_put_turn :
      (ws d x : List ℕ) (i w : ℕ) (y : List ℕ) (r : ℕ) → Put (written_words (take i ws)) d x w → i < length ws → w + n ≤ length x →
      y ≡ filled (in_octets n (get_or ws i 0)) (take (length x - w) (drop w x)) →
      r ≡ filled_length (in_octets n (get_or ws i 0)) (take (length x - w) (drop w x)) →
      Put (written_words (take (i + 1) ws)) d (take w x ++ (y ++ drop (length x - w) (drop w x))) (w + r)
  words_put_turn ws d x i w y r p h room octets answer =
      put_more p (in_octets n (get_or ws i 0)) (written_words (take (i + 1) ws)) (one_more_lem ws i h) y r
      (number_room (get_or ws i 0) n (take (length x - w) (drop w x)) y r (rest_room x w n room) octets answer)

  -- eight words fill the buffer: the digest
  pub digest_put :
      (m : Member) (s d x : List ℕ) (v : State) (i w : ℕ) → Put (written_words (take i (state_words v))) d x w → 8 ≤ i → v ≡ hash_value m s →
      n ≡ m.word_octets → w ≡ length d → x ≡ digest m s
  unfolding digest
  digest_put m s d x v i w p all e same full =
      p.octets
      ∙ rw (← p.count, drop_of_length-le d {i = w} (omega arith), append-nil, take_all i (state_words v) all, e, same)
