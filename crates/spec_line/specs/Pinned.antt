-- A round-trip theorem doesn't fix a format: change reader and writer together, and it still holds. So each format is also spelled out by
-- an equation. Each is proved under its name in proofs/.
use Rattle.std.specs.Prelude.{ℕ, ◌+◌, ◌*◌, ◌<◌, ◌≡◌, List, [], ◌∷◌, ◌++◌, map}
use Rattle.spec_line.specs.Read.{plain, quoted, numbered, value_of}
use Rattle.spec_octets.specs.Lists.{flatten}
use Rattle.spec_octets.specs.Octets.{lowered}
use Rattle.spec_octets.specs.WrittenDecimal.{decimal}
use Rattle.spec_record.specs.Property.{Property}
use Rattle.spec_line.specs.Written.{escaped, line}
use Rattle.spec_line.specs.Grammar.{OctetField}

-- The octet that a written octet stands for: the octet itself, the octet after the backslash, or the value of the three digits.
abbrev pub WrittenOctetValues : Type 0
WrittenOctetValues =
    (x a b c : ℕ) →
    (value_of (plain x) ≡ x) × (value_of (quoted x) ≡ x) × (value_of (numbered (48 + a) (48 + b) (48 + c)) ≡ a * 100 + b * 10 + c)

-- Flags without leading zeros, one space, tag in lower case, one space, value in quotes.
abbrev pub LineAsWritten : Type 0
LineAsWritten =
    (p : Property) →
    (line p ≡ decimal p.flags ++ ((32 ∷ lowered p.tag) ++ ((32 ∷ 34 ∷ flatten (map escaped p.value)) ++ (34 ∷ []))))
    × (p.flags < 256 → OctetField p.flags (decimal p.flags) × ((s : List ℕ) → decimal p.flags ≡ 48 ∷ s → s ≡ []))
