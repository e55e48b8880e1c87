-- The two calls on octets, with buffers filled with octet 95, and the answers and buffers that the requirements state.
use Rattle.std.specs.Prelude.{ℕ, ◌-◌, ◌≡◌, List, [], ◌∷◌, ◌++◌, replicate, Ok, Err}
use Rattle.spec_refusal.specs.declared.Refusal.TheVariants.{NoRoom, BadLine, LineTooLong, BadData}
use Rattle.spec_octets.specs.Lists.{flatten}
use Rattle.spec_octets.specs.Octets.{text}
use Rattle.spec_line.specs.Calls.{write_line, parse_line}

-- n octets of CAA data: flags 0, the tag t, and a value of letters.
abbrev pub data_of : ℕ → List ℕ
data_of n = 0 ∷ 1 ∷ text "t" ++ replicate (n - 3) 97

-- A line of 16,378 octets and n more spaces after the flags; its value is escaped as \DDD.
abbrev pub long_line : ℕ → List ℕ
long_line n = text "0 " ++ replicate n 32 ++ text "t \"" ++ flatten (replicate 4093 (text "\\097")) ++ text "\""

abbrev pub LineCalls : Type 0
LineCalls =
    -- Writing: flags, tag in lower case, value in quotes with its escape sequences; the octets after the line are unchanged.
    (write_line (128 ∷ 5 ∷ (text "IsSue" ++ text "a \"b\\~" ++ (0 ∷ 9 ∷ 127 ∷ 255 ∷ []))) (replicate 40 95)
    ≡ record { answer = Ok 36; buffer = text "128 issue \"a \\\"b\\\\~\\000\\009\\127\\255\"" ++ replicate 4 95 })
    -- A buffer just long enough, and one octet too short.
    × (write_line (0 ∷ 1 ∷ text "t") (replicate 6 95) ≡ record { answer = Ok 6; buffer = text "0 t \"\"" })
    × (write_line (0 ∷ 1 ∷ text "t") (replicate 5 95) ≡ record { answer = Err (NoRoom 6); buffer = replicate 5 95 })
    -- No line: a tag with other octets than letters and digits, even in a short buffer; malformed data.
    × (write_line (0 ∷ 1 ∷ text "-") (replicate 9 95) ≡ record { answer = Err BadData; buffer = replicate 9 95 })
    × (write_line (0 ∷ 3 ∷ text "a_bv") (replicate 2 95) ≡ record { answer = Err BadData; buffer = replicate 2 95 })
    × (write_line (0 ∷ 0 ∷ text "t") (replicate 9 95) ≡ record { answer = Err BadData; buffer = replicate 9 95 })
    × (write_line (0 ∷ 2 ∷ text "t") (replicate 9 95) ≡ record { answer = Err BadData; buffer = replicate 9 95 })
    × (write_line (0 ∷ []) (replicate 9 95) ≡ record { answer = Err BadData; buffer = replicate 9 95 })
    -- Reading: the tag in the case of the line; a buffer just long enough, one octet too short, and a malformed line.
    × (parse_line (text "0 T v") (replicate 6 95) ≡ record { answer = Ok 4; buffer = 0 ∷ 1 ∷ (text "Tv" ++ replicate 2 95) })
    × (parse_line (text "0 T v") (replicate 4 95) ≡ record { answer = Ok 4; buffer = 0 ∷ 1 ∷ text "Tv" })
    × (parse_line (text "0 T v") (replicate 3 95) ≡ record { answer = Err (NoRoom 4); buffer = replicate 3 95 })
    × (parse_line (text "0 T ") (replicate 0 95) ≡ record { answer = Err BadLine; buffer = [] })
    -- Data of 4,096 octets and of one more, written and read.
    × ((write_line (data_of 4096) (replicate 4099 95)).answer ≡ Ok 4099)
    × ((write_line (data_of 4097) (replicate 4099 95)).answer ≡ Err LineTooLong)
    × ((parse_line (text "0 t " ++ replicate 4093 97) (replicate 4096 95)).answer ≡ Ok 4096)
    × ((parse_line (text "0 t " ++ replicate 4094 97) (replicate 4096 95)).answer ≡ Err LineTooLong)
    -- A line of 16,384 octets and of one more.
    × ((parse_line (long_line 6) (replicate 4096 95)).answer ≡ Ok 4096)
    × ((parse_line (long_line 7) (replicate 4096 95)).answer ≡ Err LineTooLong)
