-- A line from its parts: flags, space and tag; a space and the value in quotes; and both together.
use Prim.Native.Nat.{ℕ, ◌+◌, ◌-◌, ◌≤◌, ◌<◌, ◌^◌}
use native.Mathlib.Omega.{arith}
use mathlib.Core.Path.{◌≡◌, refl}
use mathlib.Core.List.{List, [], ◌∷◌, ◌++◌, append_assoc}
use lib.ListN.{length, take, drop, set, length-append, length-map, length-set}
use mir.Syntax.{w64}
use mir.Val.{Fits}
use Rattle.spec_octets.specs.Octets.{lower, lowered}
use Rattle.spec_octets.specs.WrittenDecimal.{decimal}
use Rattle.spec_octets.specs.Buffer.{Put, filled, filled_length}
use Rattle.text_buffer.proofs.Filled.{put_room}
use Rattle.text_buffer.proofs.LentRest.{rest_room, put_length, put_octet, put_more, put_two}
use Rattle.spec_line.specs.Written.{space, quote, line}
use Rattle.line_property.specs.Places.{escaped_value, line_head, quoted_value, line_of}

-- Flags, space and tag.

module _ (f : ℕ) (t d : List ℕ) (room : length (line_head f t) ≤ length d) where
  head_long : length (decimal f) + 1 + length t ≤ length d
  head_long = omega (arith, rw (length-append, length-map) at room)

  pub flags_room : length (decimal f) ≤ length d
  flags_room = omega (arith, head_long)

  module _ (x : List ℕ) (w : ℕ) (told : x ≡ filled (decimal f) d) (answer : w ≡ filled_length (decimal f) d) where
    flags_put : Put (decimal f) d x w
    flags_put = put_room (decimal f) d flags_room x w told answer

    same : length x ≡ length d
    same = put_length flags_put flags_room

    pub space_room : w < length x
    space_room = omega (arith, head_long, same, flags_put.count)

    pub space_fits : length d < 2 ^ 64 → Fits w64 (w + 1)
    space_fits h = record { fits = omega (arith, head_long, flags_put.count) }

    abbrev spaced : List ℕ
    spaced = set x w space

    pub tag_from : w + 1 ≤ length spaced
    tag_from = rw length-set (omega (arith, space_room))

    abbrev lent : List ℕ
    lent = take (length spaced - (w + 1)) (drop (w + 1) spaced)

    module _ (y : List ℕ) (n : ℕ) (told' : y ≡ filled (lowered t) lent) (answer' : n ≡ filled_length (lowered t) lent) where
      tag_put : Put (lowered t) lent y n
      tag_put =
          put_room (lowered t) lent
          (rest_room spaced (w + 1) (length (lowered t)) (rw (length-set, length-map) (omega (arith, head_long, same, flags_put.count)))) y n told' answer'

      pub head_fits : length d < 2 ^ 64 → Fits w64 (w + 1 + n)
      head_fits h = record { fits = omega (arith, head_long, flags_put.count, tag_put.count, length-map t lower) }

      pub head_put : Put (line_head f t) d (take (w + 1) spaced ++ (y ++ drop (length spaced - (w + 1)) (drop (w + 1) spaced))) (w + 1 + n)
      head_put =
          put_more (put_octet flags_put space (decimal f ++ (space ∷ [])) space_room refl) (lowered t) (line_head f t) (rw append_assoc) y n tag_put

-- A space and the value between quotes.

module _ (v d : List ℕ) (room : length (quoted_value v) ≤ length d) where
  quoted_long : 3 + length (escaped_value v) ≤ length d
  quoted_long = omega (arith, rw length-append at room)

  abbrev opened : List ℕ
  opened = set (set d 0 space) 1 quote

  opened_long : length opened ≡ length d
  opened_long = rw (length-set, length-set)

  pub quote_room : 1 < length (set d 0 space)
  quote_room = rw length-set (omega (arith, quoted_long))

  pub value_from_lem : 2 ≤ length (set (set d 0 space) 1 quote)
  value_from_lem = omega (arith, quoted_long, opened_long)

  pub value_room : length (escaped_value v) ≤ length (take (length (set (set d 0 space) 1 quote) - 2) (drop 2 (set (set d 0 space) 1 quote)))
  value_room = rest_room opened 2 (length (escaped_value v)) (omega (arith, quoted_long, opened_long))

  module _ (y : List ℕ) (n : ℕ) (q : Put (escaped_value v) (take (length (set (set d 0 space) 1 quote) - 2) (drop 2 (set (set d 0 space) 1 quote))) y n) where
    pub value_fits : length d < 2 ^ 64 → Fits w64 (2 + n)
    value_fits h = record { fits = omega (arith, quoted_long, q.count) }

    pub quoted_fits : length d < 2 ^ 64 → Fits w64 (2 + n + 1)
    quoted_fits h = record { fits = omega (arith, quoted_long, q.count) }

    abbrev closed : List ℕ
    closed = take 2 opened ++ (y ++ drop (length opened - 2) (drop 2 opened))

    closed_put : Put (space ∷ quote ∷ escaped_value v) d closed (2 + n)
    closed_put = put_more (put_two space quote d (omega (arith, quoted_long))) (escaped_value v) (space ∷ quote ∷ escaped_value v) refl y n q

    pub last_room : 2 + n < length closed
    last_room = omega (arith, quoted_long, q.count, put_length closed_put (omega (arith, quoted_long)))

    pub quoted_put : Put (quoted_value v) d (set closed (2 + n) quote) (2 + n + 1)
    quoted_put = put_octet closed_put quote (quoted_value v) last_room refl

    pub quoted_same : length (set closed (2 + n) quote) ≡ length d
    quoted_same = put_length quoted_put room

-- Both.

pub in_parts : (f : ℕ) (t v : List ℕ) → line_of f t v ≡ line_head f t ++ quoted_value v
unfolding line
in_parts f t v = simp append_assoc

module _ (f : ℕ) (t v d : List ℕ) (room : length (line_of f t v) ≤ length d) where
  line_long : length (line_head f t) + length (quoted_value v) ≤ length d
  line_long = rw (in_parts f t v, length-append (line_head f t) (quoted_value v)) at room

  pub head_room : length (line_head f t) ≤ length d
  head_room = omega (arith, line_long)

  module _ (x : List ℕ) (w : ℕ) (p : Put (line_head f t) d x w) where
    pub quoted_from : w ≤ length x
    quoted_from = omega (arith, line_long, p.count, put_length p head_room)

    pub quoted_room : length (quoted_value v) ≤ length (take (length x - w) (drop w x))
    quoted_room = rest_room x w (length (quoted_value v)) (omega (arith, line_long, p.count, put_length p head_room))

    module _ (y : List ℕ) (n : ℕ) (q : Put (quoted_value v) (take (length x - w) (drop w x)) y n) where
      pub line_fits : length d < 2 ^ 64 → Fits w64 (w + n)
      line_fits h = record { fits = omega (arith, line_long, p.count, q.count) }

      pub line_put : Put (line_of f t v) d (take w x ++ (y ++ drop (length x - w) (drop w x))) (w + n)
      line_put = put_more p (quoted_value v) (line_of f t v) (in_parts f t v) y n q
