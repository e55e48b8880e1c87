-- The owner from its parts: a label with an underscore, two such labels, and then the host.
use Prim.Native.Nat.{ℕ, ◌+◌, ◌-◌, ◌≤◌, ◌<◌, ◌^◌}
use native.Mathlib.Omega.{arith}
use mathlib.Core.Path.{◌≡◌, refl}
use mathlib.Core.List.{List, ◌++◌}
use lib.ListN.{length, take, drop, set, length-append, length-set}
use mir.Syntax.{w8, w64}
use mir.Val.{Fits}
use Rattle.spec_limits.specs.Limits.{max_name_octets}
use Rattle.spec_octets.specs.Buffer.{Put, filled, filled_length}
use Rattle.text_buffer.proofs.Filled.{put_room}
use Rattle.text_buffer.proofs.LentRest.{rest_room, put_length, put_more, put_two}
use Rattle.tlsa_owner.specs.Places.{label_octets, prefix_octets, owner_octets}

-- A label.

module _ (t : List ℕ) (short : length (label_octets t) ≤ max_name_octets) where
  pub length_sum : Fits w64 (length t + 1)
  unfolding max_name_octets
  length_sum = record { fits = omega arith }

  pub length_fits : Fits w8 (length t + 1)
  unfolding max_name_octets
  length_fits = record { fits = omega arith }

module _ (t d : List ℕ) (room : length (label_octets t) ≤ length d) where
  pub length_room : 0 < length d
  length_room = omega arith

  abbrev begun : List ℕ
  begun = set (set d 0 (length t + 1)) 1 95

  begun_long : length begun ≡ length d
  begun_long = rw (length-set, length-set)

  pub underscore_room : 1 < length (set d 0 (length t + 1))
  underscore_room = rw length-set (omega arith)

  pub text_from : 2 ≤ length begun
  text_from = omega (arith, begun_long)

  abbrev lent : List ℕ
  lent = take (length begun - 2) (drop 2 begun)

  module _ (y : List ℕ) (n : ℕ) (told : y ≡ filled t lent) (answer : n ≡ filled_length t lent) where
    text_put : Put t lent y n
    text_put = put_room t lent (rest_room begun 2 (length t) (omega (arith, begun_long))) y n told answer

    pub label_fits : length (label_octets t) ≤ max_name_octets → Fits w64 (2 + n)
    unfolding max_name_octets
    label_fits h = record { fits = omega (arith, text_put.count) }

    pub label_put : Put (label_octets t) d (take 2 begun ++ (y ++ drop (length begun - 2) (drop 2 begun))) (2 + n)
    label_put = put_more (put_two (length t + 1) 95 d (omega arith)) t (label_octets t) refl y n text_put

    pub label_same : length (take 2 begun ++ (y ++ drop (length begun - 2) (drop 2 begun))) ≡ length d
    label_same = put_length label_put room

-- Two labels.

module _ (p t : List ℕ) (short : length (prefix_octets p t) ≤ max_name_octets) where
  pub port_short : length (label_octets p) ≤ max_name_octets
  port_short = omega (arith, length-append p (label_octets t))

  pub transport_short : length (label_octets t) ≤ max_name_octets
  transport_short = omega (arith, length-append p (label_octets t))

module _ (p t d : List ℕ) (room : length (prefix_octets p t) ≤ length d) where
  pub port_room : length (label_octets p) ≤ length d
  port_room = omega (arith, length-append p (label_octets t))

  module _ (x : List ℕ) (w : ℕ) (q : Put (label_octets p) d x w) where
    pub transport_from : w ≤ length x
    transport_from = omega (arith, port_room, q.count, put_length q port_room)

    pub transport_room : length (label_octets t) ≤ length (take (length x - w) (drop w x))
    transport_room = rest_room x w (length (label_octets t)) (omega (arith, length-append p (label_octets t), q.count, put_length q port_room))

    module _ (y : List ℕ) (n : ℕ) (r : Put (label_octets t) (take (length x - w) (drop w x)) y n) where
      pub prefix_fits : length d < 2 ^ 64 → Fits w64 (w + n)
      prefix_fits h = record { fits = omega (arith, length-append p (label_octets t), q.count, r.count) }

      pub prefix_put : Put (prefix_octets p t) d (take w x ++ (y ++ drop (length x - w) (drop w x))) (w + n)
      prefix_put = put_more q (label_octets t) (prefix_octets p t) refl y n r

-- The labels and the host.

module _ (p t h : List ℕ) (short : length (owner_octets p t h) ≤ max_name_octets) where
  pub prefix_short : length (prefix_octets p t) ≤ max_name_octets
  prefix_short = omega (arith, length-append (prefix_octets p t) h)

module _ (p t h d : List ℕ) (room : length (owner_octets p t h) ≤ length d) where
  owner_long : length (prefix_octets p t) + length h ≤ length d
  owner_long = omega (arith, length-append (prefix_octets p t) h)

  pub prefix_room : length (prefix_octets p t) ≤ length d
  prefix_room = omega (arith, owner_long)

  module _ (x : List ℕ) (w : ℕ) (q : Put (prefix_octets p t) d x w) where
    pub host_from : w ≤ length x
    host_from = omega (arith, prefix_room, q.count, put_length q prefix_room)

    abbrev rest : List ℕ
    rest = take (length x - w) (drop w x)

    module _ (y : List ℕ) (n : ℕ) (told : y ≡ filled h rest) (answer : n ≡ filled_length h rest) where
      host_put : Put h rest y n
      host_put = put_room h rest (rest_room x w (length h) (omega (arith, owner_long, q.count, put_length q prefix_room))) y n told answer

      pub owner_fits : length d < 2 ^ 64 → Fits w64 (w + n)
      owner_fits g = record { fits = omega (arith, owner_long, q.count, host_put.count) }

      pub owner_put : Put (owner_octets p t h) d (take w x ++ (y ++ drop (length x - w) (drop w x))) (w + n)
      owner_put = put_more q h (owner_octets p t h) refl y n host_put

      pub owner_same : length (take w x ++ (y ++ drop (length x - w) (drop w x))) ≡ length d
      owner_same = put_length owner_put room
