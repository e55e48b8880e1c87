-- The result of reading an octet in decimal, as the code returns it.
use Rattle.std.specs.Prelude.{ℕ, List, Option, None, Some}
use Rattle.spec_octets.specs.Decimal.{decimal_octet}

-- A number, or a fault.
abbrev pub octet_read : Option ℕ → Option ℕ
octet_read None = None
octet_read (Some n) = Some n

unfoldable pub decimal_in : List ℕ → Option ℕ
decimal_in s = octet_read (decimal_octet s)
