-- CAA data from its parts: flags, tag length and tag, and then the value.
use Prim.Native.Nat.{ℕ, ◌+◌, ◌-◌, ◌≤◌, ◌<◌, ◌^◌}
use native.Mathlib.Omega.{arith}
use mathlib.Core.Path.{◌≡◌, refl}
use mathlib.Core.List.{List, ◌++◌}
use lib.ListN.{length, take, drop, set, length-set}
use mir.Syntax.{w8, w64}
use mir.Val.{Fits}
use Rattle.spec_limits.specs.Limits.{max_tag_octets}
use Rattle.spec_octets.specs.Buffer.{Put, filled, filled_length}
use Rattle.text_buffer.proofs.Filled.{put_room}
use Rattle.text_buffer.proofs.LentRest.{rest_room, put_length, put_more, put_two}
use Rattle.line_data.specs.Places.{data_head, data_of}

pub length_fits : (t : List ℕ) → length t ≤ max_tag_octets → Fits w8 (length t)
unfolding max_tag_octets
length_fits t h = record { fits = omega arith }

module _ (f : ℕ) (t d : List ℕ) (room : length (data_head f t) ≤ length d) where
  abbrev begun : List ℕ
  begun = set (set d 0 f) 1 (length t)

  begun_long : length begun ≡ length d
  begun_long = rw (length-set, length-set)

  pub length_room : 1 < length (set d 0 f)
  length_room = rw length-set (omega arith)

  pub tag_from : 2 ≤ length begun
  tag_from = omega (arith, begun_long)

  abbrev lent : List ℕ
  lent = take (length begun - 2) (drop 2 begun)

  module _ (y : List ℕ) (n : ℕ) (told : y ≡ filled t lent) (answer : n ≡ filled_length t lent) where
    tag_put : Put t lent y n
    tag_put = put_room t lent (rest_room begun 2 (length t) (omega (arith, begun_long))) y n told answer

    pub head_fits : length t ≤ max_tag_octets → Fits w64 (2 + n)
    unfolding max_tag_octets
    head_fits h = record { fits = omega (arith, tag_put.count) }

    pub head_put : Put (data_head f t) d (take 2 begun ++ (y ++ drop (length begun - 2) (drop 2 begun))) (2 + n)
    head_put = put_more (put_two f (length t) d (omega arith)) t (data_head f t) refl y n tag_put

    pub head_same : length (take 2 begun ++ (y ++ drop (length begun - 2) (drop 2 begun))) ≡ length d
    head_same = put_length head_put room

module _ (f : ℕ) (t v d : List ℕ) (room : 2 + length t + length v ≤ length d) where
  pub head_room : length (data_head f t) ≤ length d
  head_room = omega arith

  module _ (x : List ℕ) (w : ℕ) (p : Put (data_head f t) d x w) where
    pub value_from_lem : w ≤ length x
    value_from_lem = omega (arith, p.count, put_length p head_room)

    pub value_room : length v ≤ length (take (length x - w) (drop w x))
    value_room = rest_room x w (length v) (omega (arith, p.count, put_length p head_room))

    module _ (y : List ℕ) (n : ℕ) (q : Put v (take (length x - w) (drop w x)) y n) where
      pub data_fits : length d < 2 ^ 64 → Fits w64 (w + n)
      data_fits h = record { fits = omega (arith, p.count, q.count) }

      pub data_put : Put (data_of f t v) d (take w x ++ (y ++ drop (length x - w) (drop w x))) (w + n)
      data_put = put_more p v (data_of f t v) refl y n q
