-- Decimal numbers: what a text of digits stands for.
use Rattle.std.specs.Prelude.{ℕ, ◌+◌, ◌-◌, ◌*◌, cond, ◌&&◌, List, [], ◌∷◌, leb, length, Option, None, Some}
use Prim.Native.Char.{code}
use Rattle.spec_octets.specs.Lists.{all}
use Rattle.spec_octets.specs.Octets.{between, is_digit}

-- The value of the digits s that follow the digits of n.
abbrev pub decimal_from : ℕ → List ℕ → ℕ
decimal_from n [] = n
decimal_from n (x ∷ s) = decimal_from (n * 10 + (x - code "0")) s

-- An octet in decimal, as the flags of a CAA record in presentation format: 1 to 3 digits, at most 255.
unfoldable pub decimal_octet : List ℕ → Option ℕ
decimal_octet s = cond (between 1 3 (length s) && all is_digit s && leb (decimal_from 0 s) 255) (Some (decimal_from 0 s)) None
