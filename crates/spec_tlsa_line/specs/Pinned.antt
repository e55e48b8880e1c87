-- A round-trip theorem doesn't fix a format: change reader and writer together, and it still holds. So the format is also spelled out by
-- equations. Each is proved under its name in proofs/.
use Rattle.std.specs.Prelude.{◌≡◌, [], ◌∷◌, ◌++◌, map}
use Rattle.spec_octets.specs.Lists.{flatten}
use Rattle.spec_octets.specs.Octets.{text}
use Rattle.spec_octets.specs.WrittenDecimal.{decimal}
use Rattle.spec_tlsa.specs.Association.{Association}
use Rattle.spec_tlsa_line.specs.Hex.{hex_digit, hex_octet, hex_text, hex_value}
use Rattle.spec_tlsa_line.specs.Lines.{tlsa_line}

-- Three numbers without leading zeros and the digits, with one space between two fields.
abbrev pub TlsaAsWritten : Type 0
TlsaAsWritten =
    (a : Association) →
    tlsa_line a
    ≡ decimal a.usage ++ ((32 ∷ decimal a.selector) ++ ((32 ∷ decimal a.matching) ++ (32 ∷ flatten (map hex_octet a.octets))))

-- The sixteen digits that are written; and the values of the digits that are read, in either case.
abbrev pub DigitsPrinted : Type 0
DigitsPrinted =
    (map hex_digit (0 ∷ 1 ∷ 2 ∷ 3 ∷ 4 ∷ 5 ∷ 6 ∷ 7 ∷ 8 ∷ 9 ∷ 10 ∷ 11 ∷ 12 ∷ 13 ∷ 14 ∷ 15 ∷ []) ≡ text "0123456789abcdef")
    × (map hex_value (text "0123456789abcdef") ≡ 0 ∷ 1 ∷ 2 ∷ 3 ∷ 4 ∷ 5 ∷ 6 ∷ 7 ∷ 8 ∷ 9 ∷ 10 ∷ 11 ∷ 12 ∷ 13 ∷ 14 ∷ 15 ∷ [])
    × (map hex_value (text "ABCDEF") ≡ 10 ∷ 11 ∷ 12 ∷ 13 ∷ 14 ∷ 15 ∷ [])
    × (hex_text (0 ∷ 9 ∷ 16 ∷ 175 ∷ 255 ∷ []) ≡ text "000910afff")
