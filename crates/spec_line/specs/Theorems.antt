-- What the definitions of this crate mean. Each statement is proved under its name in proofs/.
use Rattle.std.specs.Prelude.{ℕ, ◌≤◌, ◌<◌, ◌≡◌, ◌↔◌, ◌≢◌, ◌⊎◌, true, List, [], ◌∷◌, ◌++◌, map, length, take, drop, Some, Ok, Err}
use Rattle.spec_limits.specs.Limits.{max_data_octets, max_line_octets}
use Rattle.spec_refusal.specs.declared.Refusal.{Refusal}
use Rattle.spec_refusal.specs.declared.Refusal.TheVariants.{NoRoom, BadLine, LineTooLong, BadData}
use Rattle.spec_octets.specs.Lists.{All}
use Rattle.spec_octets.specs.Octets.{Octets, lowered, is_digit, is_letter_or_digit}
use Rattle.spec_octets.specs.Decimal.{decimal_from}
use Rattle.spec_record.specs.Property.{Property, wire_property}
use Rattle.spec_line.specs.Written.{escaped, line}
use Rattle.spec_line.specs.Read.{is_in_quotes, is_bare, read_line}
use Rattle.spec_line.specs.Calls.{write_line, parse_line}
use Rattle.spec_line.specs.Grammar.{LineOf, HasLine}
use Rattle.spec_line.specs.LineEdges.{line_edges}

-- The same data with its tag in lower case.
abbrev pub small_tag : Property → Property
small_tag p = record { flags = p.flags; tag = lowered p.tag; value = p.value }

-- The reader accepts exactly the lines of Grammar.antt, each for the one property that it stands for.
abbrev pub LineIsTheGrammar : Type 0
LineIsTheGrammar = (s : List ℕ) (p : Property) → (read_line s ≡ Some p) ↔ LineOf p s

-- Each line of the table LineEdges.antt is read as the requirements say.
abbrev pub LineEdges : Type 0
LineEdges = map (λ r. read_line r.0) line_edges ≡ map (λ r. r.1) line_edges

-- Octets that need no escape: in quotes 32 to 126 except 34, the quote, and 92, the backslash; bare 33 to 126 except these, 59, the
-- semicolon, and 40 and 41, the parentheses.
abbrev pub PlainOctets : Type 0
PlainOctets =
    (x : ℕ) →
    ((is_in_quotes x ≡ true) ↔ ((32 ≤ x) × (x ≤ 126) × (x ≢ 34) × (x ≢ 92)))
    × ((is_bare x ≡ true) ↔ ((33 ≤ x) × (x ≤ 126) × (x ≢ 34) × (x ≢ 92) × (x ≢ 59) × (x ≢ 40) × (x ≢ 41)))

-- How the writer spells an octet: quote and backslash after a backslash, other octets 32 to 126 as themselves, all others as \DDD.
abbrev pub OctetAsWritten : Type 0
OctetAsWritten =
    (x : ℕ) →
    ((32 ≤ x) × (x ≤ 126) × (x ≢ 34) × (x ≢ 92) → escaped x ≡ x ∷ [])
    × ((x ≡ 34) ⊎ (x ≡ 92) → escaped x ≡ 92 ∷ x ∷ [])
    × (x < 256 → (x < 32) ⊎ (126 < x) → (a b c : ℕ) × (escaped x ≡ 92 ∷ a ∷ b ∷ c ∷ [])
    × All (λ y. is_digit y ≡ true) (a ∷ b ∷ c ∷ []) × (decimal_from 0 (a ∷ b ∷ c ∷ []) ≡ x))

-- Reading a written line gives the data with its tag in lower case.
abbrev pub ThereAndBack : Type 0
ThereAndBack = (p : Property) → HasLine p → read_line (line p) ≡ Some (small_tag p)

-- Reading a line, writing the data and reading it again gives the same data with its tag in lower case.
abbrev pub BackAndThere : Type 0
BackAndThere = (s : List ℕ) (p : Property) → Octets s → read_line s ≡ Some p → read_line (line p) ≡ Some (small_tag p)

-- A written line is never over the limit of lines.
abbrev pub LineFits : Type 0
LineFits = (p : Property) → HasLine p → length (wire_property p) ≤ max_data_octets → length (line p) ≤ max_line_octets

-- The refusals when writing, as in the requirements' table: the data is over its limit; it is not a property with a tag of letters and
-- digits; the buffer is shorter than the line.
abbrev pub Writable : List ℕ → Property → Type 0
Writable d p = (d ≡ wire_property p) × (1 ≤ length p.tag) × All (λ x. is_letter_or_digit x ≡ true) p.tag

abbrev pub WriteRefusals : Type 0
WriteRefusals =
    (d buffer : List ℕ) →
    (((write_line d buffer).answer ≡ Err LineTooLong) ↔ (max_data_octets < length d))
    × (((write_line d buffer).answer ≡ Err BadData) ↔ ((length d ≤ max_data_octets) × ((p : Property) → Writable d p → ⊥)))
    × ((n : ℕ) → ((write_line d buffer).answer ≡ Err (NoRoom n))
    ↔ ((length d ≤ max_data_octets) × ((p : Property) × Writable d p × (length (line p) ≡ n) × (length buffer < n))))
    × ((r : Refusal) → (write_line d buffer).answer ≡ Err r → (write_line d buffer).buffer ≡ buffer)

-- The refusals when reading: the line is over its limit; it is malformed; its data is over the limit; the buffer is too short.
abbrev pub ReadRefusals : Type 0
ReadRefusals =
    (s buffer : List ℕ) →
    (((parse_line s buffer).answer ≡ Err LineTooLong)
    ↔ ((max_line_octets < length s)
    ⊎ ((length s ≤ max_line_octets) × ((p : Property) × LineOf p s × (max_data_octets < length (wire_property p))))))
    × (((parse_line s buffer).answer ≡ Err BadLine) ↔ ((length s ≤ max_line_octets) × ((p : Property) → LineOf p s → ⊥)))
    × ((n : ℕ) → ((parse_line s buffer).answer ≡ Err (NoRoom n))
    ↔ ((length s ≤ max_line_octets) × ((p : Property) × LineOf p s × (length (wire_property p) ≤ max_data_octets) × (length (wire_property p) ≡ n) × (length buffer < n))))
    × ((r : Refusal) → (parse_line s buffer).answer ≡ Err r → (parse_line s buffer).buffer ≡ buffer)

-- If the buffer is long enough, the output is at its start, its length is returned and the octets after it are unchanged.
abbrev pub LinePlaced : Type 0
LinePlaced =
    (d buffer : List ℕ) (p : Property) → length d ≤ max_data_octets → Writable d p → length (line p) ≤ length buffer →
    write_line d buffer ≡ record { answer = Ok (length (line p)); buffer = line p ++ drop (length (line p)) buffer }

abbrev pub DataPlaced : Type 0
DataPlaced =
    (s buffer : List ℕ) (p : Property) → length s ≤ max_line_octets → LineOf p s → length (wire_property p) ≤ max_data_octets →
    length (wire_property p) ≤ length buffer →
    parse_line s buffer
    ≡ record { answer = Ok (length (wire_property p)); buffer = wire_property p ++ drop (length (wire_property p)) buffer }

-- With buffers that are long enough, reading what was written gives the data with its tag in lower case, whatever the buffers held.
abbrev pub WrittenReadsBack : Type 0
WrittenReadsBack =
    (p : Property) (b₁ b₂ : List ℕ) → HasLine p → length (wire_property p) ≤ max_data_octets →
    length (line p) ≤ length b₁ → length (wire_property p) ≤ length b₂ →
    ((write_line (wire_property p) b₁).answer ≡ Ok (length (line p)))
    × ((parse_line (take (length (line p)) (write_line (wire_property p) b₁).buffer) b₂).answer ≡ Ok (length (wire_property p)))
    × (take (length (wire_property p)) (parse_line (take (length (line p)) (write_line (wire_property p) b₁).buffer) b₂).buffer
    ≡ wire_property (small_tag p))
