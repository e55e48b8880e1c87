-- Octets in hexadecimal, as in the last field of a TLSA line (RFC 6698 section 2.2).
use Rattle.std.specs.Prelude.{ℕ, ◌+◌, ◌-◌, ◌*◌, ◌/◌, ◌%◌, Bool, cond, not, ◌&&◌, ◌||◌, List, [], ◌∷◌, map, ltb, eqb, length, Option, None, Some}
use Prim.Native.Char.{code}
use Rattle.spec_octets.specs.Lists.{all, select, is_empty, ends, flatten}
use Rattle.spec_octets.specs.Octets.{between, is_digit, is_upper, is_blank}

-- Written: two digits for each octet, the high one first, in lower case.
abbrev pub hex_digit : ℕ → ℕ
hex_digit d = cond (ltb d 10) (code "0" + d) (code "a" + (d - 10))

abbrev pub hex_octet : ℕ → List ℕ
hex_octet x = hex_digit (x / 16) ∷ hex_digit (x % 16) ∷ []

unfoldable pub hex_text : List ℕ → List ℕ
hex_text v = flatten (map hex_octet v)

-- Read: digits of either letter case.
unfoldable pub is_hex_digit : ℕ → Bool
is_hex_digit x = is_digit x || between (code "A") (code "F") x || between (code "a") (code "f") x

unfoldable pub hex_value : ℕ → ℕ
hex_value x = cond (is_digit x) (x - code "0") (cond (is_upper x) (10 + (x - code "A")) (10 + (x - code "a")))

-- The text without its white space.
abbrev pub digits_of : List ℕ → List ℕ
digits_of s = select (λ x. not (is_blank x)) s

-- The octets that the digits stand for, two digits each.
abbrev pub paired : List ℕ → List ℕ
paired [] = []
paired (a ∷ []) = []
paired (a ∷ b ∷ s) = (hex_value a * 16 + hex_value b) ∷ paired s

-- "blanks between hex digits allowed when read, their count even and not 0". No white space follows the last digit.
unfoldable pub is_hex_text : List ℕ → Bool
is_hex_text s =
    all is_hex_digit (digits_of s) && eqb (length (digits_of s) % 2) 0 && not (is_empty (digits_of s)) && not (ends is_blank s)

unfoldable pub hex_octets : List ℕ → Option (List ℕ)
hex_octets s = cond (is_hex_text s) (Some (paired (digits_of s))) None
