-- The two calls on octets, with buffers filled with octet 95, and the answers and buffers that the requirements state.
use Rattle.std.specs.Prelude.{ℕ, ◌-◌, ◌≡◌, List, [], ◌∷◌, ◌++◌, replicate, Ok, Err}
use Rattle.spec_refusal.specs.declared.Refusal.TheVariants.{NoRoom, BadLine, LineTooLong, BadData}
use Rattle.spec_octets.specs.Lists.{flatten}
use Rattle.spec_octets.specs.Octets.{text}
use Rattle.spec_tlsa_line.specs.Calls.{write_tlsa_line, parse_tlsa_line}

-- n octets of TLSA data; and a line of data of n octets with k more spaces behind the usage.
abbrev pub data_of : ℕ → List ℕ
data_of n = 3 ∷ 1 ∷ 0 ∷ replicate (n - 3) 171

abbrev pub line_of : ℕ → ℕ → List ℕ
line_of n k = text "3 " ++ replicate k 32 ++ text "1 0 " ++ flatten (replicate (n - 3) (text "ab"))

abbrev pub TlsaLineCalls : Type 0
TlsaLineCalls =
    -- Writing: the octets behind the line are unchanged. Fields of any value are written.
    (write_tlsa_line (3 ∷ 1 ∷ 0 ∷ 171 ∷ 0 ∷ 9 ∷ 255 ∷ []) (replicate 16 95)
    ≡ record { answer = Ok 14; buffer = text "3 1 0 ab0009ff__" })
    × (write_tlsa_line (255 ∷ 10 ∷ 7 ∷ 16 ∷ []) (replicate 12 95) ≡ record { answer = Ok 11; buffer = text "255 10 7 10_" })
    -- A buffer just long enough, and one octet too short.
    × (write_tlsa_line (3 ∷ 1 ∷ 0 ∷ 171 ∷ []) (replicate 8 95) ≡ record { answer = Ok 8; buffer = text "3 1 0 ab" })
    × (write_tlsa_line (3 ∷ 1 ∷ 0 ∷ 171 ∷ []) (replicate 7 95) ≡ record { answer = Err (NoRoom 8); buffer = replicate 7 95 })
    -- Data under 4 octets, even in a short buffer.
    × (write_tlsa_line (3 ∷ 1 ∷ 0 ∷ []) (replicate 9 95) ≡ record { answer = Err BadData; buffer = replicate 9 95 })
    × (write_tlsa_line [] [] ≡ record { answer = Err BadData; buffer = [] })
    -- Reading: a buffer just long enough, one octet too short, and a malformed line.
    × (parse_tlsa_line (text "3 1 0 AB cd") (replicate 7 95) ≡ record { answer = Ok 5; buffer = 3 ∷ 1 ∷ 0 ∷ 171 ∷ 205 ∷ 95 ∷ 95 ∷ [] })
    × (parse_tlsa_line (text "3 1 0 AB cd") (replicate 5 95) ≡ record { answer = Ok 5; buffer = 3 ∷ 1 ∷ 0 ∷ 171 ∷ 205 ∷ [] })
    × (parse_tlsa_line (text "3 1 0 AB cd") (replicate 4 95) ≡ record { answer = Err (NoRoom 5); buffer = replicate 4 95 })
    × (parse_tlsa_line (text "3 1 0 AB c") (replicate 4 95) ≡ record { answer = Err BadLine; buffer = replicate 4 95 })
    -- Data of 4,096 octets and of one more, written and read. A malformed line is refused before its data is counted.
    × ((write_tlsa_line (data_of 4096) (replicate 8192 95)).answer ≡ Ok 8192)
    × ((write_tlsa_line (data_of 4097) (replicate 8192 95)).answer ≡ Err LineTooLong)
    × ((parse_tlsa_line (line_of 4096 0) (replicate 4096 95)).answer ≡ Ok 4096)
    × ((parse_tlsa_line (line_of 4097 0) (replicate 4096 95)).answer ≡ Err LineTooLong)
    × ((parse_tlsa_line (line_of 4097 0 ++ text "a") (replicate 4096 95)).answer ≡ Err BadLine)
    -- A line of 16,384 octets and of one more.
    × ((parse_tlsa_line (line_of 4096 8192) (replicate 4096 95)).answer ≡ Ok 4096)
    × ((parse_tlsa_line (line_of 4096 8193) (replicate 4096 95)).answer ≡ Err LineTooLong)
