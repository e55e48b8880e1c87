-- The two calls on lines: from any octets to one answer, and to the contents of the caller's buffer afterwards.
use Rattle.std.specs.Prelude.{ℕ, Bool, cond, List, ◌++◌, leb, length, drop, Option, None, Some, Result, Ok, Err}
use Rattle.spec_limits.specs.Limits.{max_data_octets, max_line_octets}
use Rattle.spec_refusal.specs.declared.Refusal.{Refusal}
use Rattle.spec_refusal.specs.declared.Refusal.TheVariants.{NoRoom, BadLine, LineTooLong, BadData}
use Rattle.spec_octets.specs.Lists.{all}
use Rattle.spec_octets.specs.Octets.{is_letter_or_digit}
use Rattle.spec_record.specs.Property.{Property, wire_property, property}
use Rattle.spec_line.specs.Written.{line}
use Rattle.spec_line.specs.Read.{read_line}

-- The answer, and the buffer afterwards.
pub record Output : Type 0 where
  pub answer : Result ℕ Refusal
  pub buffer : List ℕ

abbrev pub refused : Refusal → List ℕ → Output
refused r buffer = record { answer = Err r; buffer = buffer }

-- Writes the output at the start of the buffer and leaves the other octets unchanged; refusal 8 if the buffer is too short.
unfoldable pub placed : List ℕ → List ℕ → Output
placed made buffer =
    cond (leb (length made) (length buffer))
    (record { answer = Ok (length made); buffer = made ++ drop (length made) buffer })
    (refused (NoRoom (length made)) buffer)

-- Writing. The checks in their order: 10 for the data; 11; 8.
abbrev pub is_writable : Property → Bool
is_writable p = all is_letter_or_digit p.tag

abbrev pub written_of : Option Property → List ℕ → Output
written_of None buffer = refused BadData buffer
written_of (Some p) buffer = cond (is_writable p) (placed (line p) buffer) (refused BadData buffer)

unfoldable pub write_line : List ℕ → List ℕ → Output
write_line d buffer = cond (leb (length d) max_data_octets) (written_of (property d) buffer) (refused LineTooLong buffer)

-- Reading. The checks in their order: 10 for the line; 9; 10 for its data; 8.
abbrev pub read_of : Option Property → List ℕ → Output
read_of None buffer = refused BadLine buffer
read_of (Some p) buffer =
    cond (leb (length (wire_property p)) max_data_octets) (placed (wire_property p) buffer) (refused LineTooLong buffer)

unfoldable pub parse_line : List ℕ → List ℕ → Output
parse_line s buffer = cond (leb (length s) max_line_octets) (read_of (read_line s) buffer) (refused LineTooLong buffer)
