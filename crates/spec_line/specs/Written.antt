-- CAA data as a line of text: the presentation format of RFC 8659 section 4.1.1 (the requirements' "A record as a line").
use Rattle.std.specs.Prelude.{ℕ, cond, ◌||◌, List, [], ◌∷◌, ◌++◌, map, eqb}
use Prim.Native.Char.{code}
use Rattle.spec_octets.specs.Lists.{flatten}
use Rattle.spec_octets.specs.Octets.{between, lowered}
use Rattle.spec_octets.specs.WrittenDecimal.{three_digits, decimal}
use Rattle.spec_record.specs.Property.{Property}

abbrev pub space : ℕ
space = code " "

abbrev pub quote : ℕ
quote = code "\""

abbrev pub backslash : ℕ
backslash = code "\\"

-- How one octet of a value is written: quote and backslash after a backslash, other octets 32 to 126 as themselves, all others as \DDD.
unfoldable pub escaped : ℕ → List ℕ
escaped x =
    cond (eqb x quote || eqb x backslash) (backslash ∷ x ∷ [])
    (cond (between 32 126 x) (x ∷ []) (backslash ∷ three_digits x))

-- Flags, space, tag in lower case, space, value in quotes.
unfoldable pub line : Property → List ℕ
line p =
    decimal p.flags ++ (space ∷ []) ++ lowered p.tag ++ (space ∷ [])
    ++ (quote ∷ flatten (map escaped p.value)) ++ (quote ∷ [])
