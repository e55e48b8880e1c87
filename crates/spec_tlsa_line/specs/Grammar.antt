-- Which lines stand for which TLSA data, as productions. Number fields and white space are those of spec_line.
use Rattle.std.specs.Prelude.{ℕ, ◌+◌, ◌*◌, ◌≤◌, ◌<◌, ◌≡◌, ◌⊎◌, ◌≢◌, false, List, [], ◌∷◌}
use Rattle.spec_octets.specs.Lists.{begins, ends, Selects}
use Rattle.spec_octets.specs.Octets.{Octets, is_blank}
use Rattle.spec_octets.specs.Grammar.{Production, ◌⊕◌}
use Rattle.spec_line.specs.Grammar.{some_blanks, OctetField}
use Rattle.spec_tlsa.specs.Association.{Association}

-- x is the digit of n: 0 to 9, and 10 to 15 as a to f or A to F.
abbrev pub HexDigit : ℕ → ℕ → Type 0
HexDigit n x = ((n ≤ 9) × (x ≡ 48 + n)) ⊎ ((10 ≤ n) × (n ≤ 15) × ((x ≡ 87 + n) ⊎ (x ≡ 55 + n)))

-- The digits are the octets v in order, two digits for each octet, the high one first.
pub data PairsOf : List ℕ → List ℕ → Type 0 where
  pairs_end : PairsOf [] []
  pairs_more : {x a b : ℕ} {v ds : List ℕ} (h l : ℕ) →
      HexDigit h a → HexDigit l b → x ≡ h * 16 + l → PairsOf v ds → PairsOf (x ∷ v) (a ∷ b ∷ ds)

-- One octet or more in digits, with white space between digits: without its white space the text is the digits of v. It neither begins nor ends
-- with white space.
abbrev pub HexField : List ℕ → List ℕ → Type 0
HexField v s =
    (v ≢ []) × (begins is_blank s ≡ false) × (ends is_blank s ≡ false)
    × ((ds : List ℕ) × Selects (λ x. is_blank x ≡ false) s ds × PairsOf v ds)

-- The line s stands for the association a. Nothing precedes the usage, and nothing follows the digits.
abbrev pub TlsaLineOf : Association → Production
TlsaLineOf a =
    OctetField a.usage ⊕ some_blanks ⊕ OctetField a.selector ⊕ some_blanks ⊕ OctetField a.matching ⊕ some_blanks ⊕ HexField a.octets

-- TLSA data that has a line: all parts are octets, and the association data is not empty.
abbrev pub HasTlsaLine : Association → Type 0
HasTlsaLine a = (a.usage < 256) × (a.selector < 256) × (a.matching < 256) × Octets a.octets × (a.octets ≢ [])
