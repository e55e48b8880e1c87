-- What the definitions of this crate mean. Each statement is proved under its name in proofs/.
use Rattle.std.specs.Prelude.{ℕ, ◌≤◌, ◌<◌, ◌≡◌, ◌↔◌, ◌⊎◌, true, List, ◌++◌, map, length, take, drop, Some, Ok, Err}
use Rattle.spec_limits.specs.Limits.{max_data_octets, max_line_octets}
use Rattle.spec_refusal.specs.declared.Refusal.{Refusal}
use Rattle.spec_refusal.specs.declared.Refusal.TheVariants.{NoRoom, BadLine, LineTooLong, BadData}
use Rattle.spec_tlsa.specs.Association.{Association, wire_association}
use Rattle.spec_tlsa.specs.Meaning.{Holds}
use Rattle.spec_tlsa_line.specs.Hex.{is_hex_digit, hex_value}
use Rattle.spec_tlsa_line.specs.Lines.{tlsa_line, read_tlsa_line}
use Rattle.spec_tlsa_line.specs.Calls.{write_tlsa_line, parse_tlsa_line}
use Rattle.spec_tlsa_line.specs.Grammar.{HexDigit, TlsaLineOf, HasTlsaLine}
use Rattle.spec_tlsa_line.specs.LineEdges.{line_edges}

-- Which octets are digits, and of which number.
abbrev pub HexDigits : Type 0
HexDigits = (x n : ℕ) → ((is_hex_digit x ≡ true) × (hex_value x ≡ n)) ↔ HexDigit n x

-- The reader accepts exactly the lines of Grammar.antt, each for the one association that it stands for.
abbrev pub TlsaLineIsTheGrammar : Type 0
TlsaLineIsTheGrammar = (s : List ℕ) (a : Association) → (read_tlsa_line s ≡ Some a) ↔ TlsaLineOf a s

-- Each line of the table LineEdges.antt is read as the requirements say.
abbrev pub TlsaLineEdges : Type 0
TlsaLineEdges = map (λ r. read_tlsa_line r.0) line_edges ≡ map (λ r. r.1) line_edges

-- Reading a written line gives the data.
abbrev pub TlsaThereAndBack : Type 0
TlsaThereAndBack = (a : Association) → HasTlsaLine a → read_tlsa_line (tlsa_line a) ≡ Some a

-- Reading a line, writing the data and reading it again gives the same data.
abbrev pub TlsaBackAndThere : Type 0
TlsaBackAndThere = (s : List ℕ) (a : Association) → read_tlsa_line s ≡ Some a → read_tlsa_line (tlsa_line a) ≡ Some a

-- A written line is never over the limit of lines.
abbrev pub TlsaLineFits : Type 0
TlsaLineFits = (a : Association) → HasTlsaLine a → length (wire_association a) ≤ max_data_octets → length (tlsa_line a) ≤ max_line_octets

-- The refusals when writing: the data is over its limit; it has fewer than 4 octets; the buffer is shorter than the line.
abbrev pub TlsaWriteRefusals : Type 0
TlsaWriteRefusals =
    (d buffer : List ℕ) →
    (((write_tlsa_line d buffer).answer ≡ Err LineTooLong) ↔ (max_data_octets < length d))
    × (((write_tlsa_line d buffer).answer ≡ Err BadData) ↔ (length d < 4))
    × ((n : ℕ) → ((write_tlsa_line d buffer).answer ≡ Err (NoRoom n))
    ↔ ((length d ≤ max_data_octets) × ((a : Association) × Holds d a × (length (tlsa_line a) ≡ n) × (length buffer < n))))
    × ((r : Refusal) → (write_tlsa_line d buffer).answer ≡ Err r → (write_tlsa_line d buffer).buffer ≡ buffer)

-- The refusals when reading: the line is over its limit; it is malformed; its data is over the limit; the buffer is too short.
abbrev pub TlsaReadRefusals : Type 0
TlsaReadRefusals =
    (s buffer : List ℕ) →
    (((parse_tlsa_line s buffer).answer ≡ Err LineTooLong)
    ↔ ((max_line_octets < length s)
    ⊎ ((length s ≤ max_line_octets) × ((a : Association) × TlsaLineOf a s × (max_data_octets < length (wire_association a))))))
    × (((parse_tlsa_line s buffer).answer ≡ Err BadLine) ↔ ((length s ≤ max_line_octets) × ((a : Association) → TlsaLineOf a s → ⊥)))
    × ((n : ℕ) → ((parse_tlsa_line s buffer).answer ≡ Err (NoRoom n))
    ↔ ((length s ≤ max_line_octets) × ((a : Association) × TlsaLineOf a s × (length (wire_association a) ≤ max_data_octets) × (length (wire_association a) ≡ n) × (length buffer < n))))
    × ((r : Refusal) → (parse_tlsa_line s buffer).answer ≡ Err r → (parse_tlsa_line s buffer).buffer ≡ buffer)

-- If the buffer is long enough, the output is at its start, its length is returned and the octets after it are unchanged.
abbrev pub TlsaLinePlaced : Type 0
TlsaLinePlaced =
    (d buffer : List ℕ) (a : Association) → length d ≤ max_data_octets → Holds d a → length (tlsa_line a) ≤ length buffer →
    write_tlsa_line d buffer ≡ record { answer = Ok (length (tlsa_line a)); buffer = tlsa_line a ++ drop (length (tlsa_line a)) buffer }

abbrev pub TlsaDataPlaced : Type 0
TlsaDataPlaced =
    (s buffer : List ℕ) (a : Association) → length s ≤ max_line_octets → TlsaLineOf a s → length (wire_association a) ≤ max_data_octets →
    length (wire_association a) ≤ length buffer →
    parse_tlsa_line s buffer
    ≡ record { answer = Ok (length (wire_association a)); buffer = wire_association a ++ drop (length (wire_association a)) buffer }

-- With buffers that are long enough, reading what was written gives the data, whatever the buffers held.
abbrev pub TlsaWrittenReadsBack : Type 0
TlsaWrittenReadsBack =
    (a : Association) (b₁ b₂ : List ℕ) → HasTlsaLine a → length (wire_association a) ≤ max_data_octets →
    length (tlsa_line a) ≤ length b₁ → length (wire_association a) ≤ length b₂ →
    ((write_tlsa_line (wire_association a) b₁).answer ≡ Ok (length (tlsa_line a)))
    × (parse_tlsa_line (take (length (tlsa_line a)) (write_tlsa_line (wire_association a) b₁).buffer) b₂
    ≡ record { answer = Ok (length (wire_association a)); buffer = wire_association a ++ drop (length (wire_association a)) b₂ })
