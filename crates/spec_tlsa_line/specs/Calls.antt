-- The two calls on TLSA lines: from any octets to one answer, and to the contents of the caller's buffer afterwards.
use Rattle.std.specs.Prelude.{ℕ, cond, List, leb, length, Option, None, Some}
use Rattle.spec_limits.specs.Limits.{max_data_octets, max_line_octets}
use Rattle.spec_refusal.specs.declared.Refusal.TheVariants.{BadLine, LineTooLong, BadData}
use Rattle.spec_line.specs.Calls.{Output, refused, placed}
use Rattle.spec_tlsa.specs.Association.{Association, wire_association, association}
use Rattle.spec_tlsa_line.specs.Lines.{tlsa_line, read_tlsa_line}

-- Writing. The checks in their order: 10 for the data; 11; 8. A field of any value has a line.
abbrev pub written_of : Option Association → List ℕ → Output
written_of None buffer = refused BadData buffer
written_of (Some a) buffer = placed (tlsa_line a) buffer

unfoldable pub write_tlsa_line : List ℕ → List ℕ → Output
write_tlsa_line d buffer = cond (leb (length d) max_data_octets) (written_of (association d) buffer) (refused LineTooLong buffer)

-- Reading. The checks in their order: 10 for the line; 9; 10 for its data; 8.
abbrev pub read_of : Option Association → List ℕ → Output
read_of None buffer = refused BadLine buffer
read_of (Some a) buffer =
    cond (leb (length (wire_association a)) max_data_octets) (placed (wire_association a) buffer) (refused LineTooLong buffer)

unfoldable pub parse_tlsa_line : List ℕ → List ℕ → Output
parse_tlsa_line s buffer = cond (leb (length s) max_line_octets) (read_of (read_tlsa_line s) buffer) (refused LineTooLong buffer)
