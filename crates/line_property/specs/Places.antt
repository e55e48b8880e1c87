-- The parts of a written line, as the code writes them.
use Rattle.std.specs.Prelude.{ℕ, cond, ◌&&◌, List, [], ◌∷◌, ◌++◌, map, leb, length}
use Rattle.spec_limits.specs.Limits.{max_data_octets}
use Rattle.spec_refusal.specs.declared.Refusal.TheVariants.{LineTooLong}
use Rattle.spec_octets.specs.Lists.{flatten}
use Rattle.spec_octets.specs.Octets.{lowered}
use Rattle.spec_octets.specs.WrittenDecimal.{decimal}
use Rattle.spec_line.specs.Written.{space, quote, escaped, line}
use Rattle.spec_line.specs.Calls.{Output, refused, placed}

-- A value as it is written in quotes.
abbrev pub escaped_value : List ℕ → List ℕ
escaped_value v = flatten (map escaped v)

-- The two parts of a line, and the whole line.
abbrev pub line_head : ℕ → List ℕ → List ℕ
line_head f t = decimal f ++ (space ∷ lowered t)

abbrev pub quoted_value : List ℕ → List ℕ
quoted_value v = space ∷ quote ∷ (escaped_value v ++ (quote ∷ []))

abbrev pub line_of : ℕ → List ℕ → List ℕ → List ℕ
line_of f t v = line (record { flags = f; tag = t; value = v })

-- Writes the line to the buffer; refusal 10 if tag or value is over the limit of CAA data.
unfoldable pub write_property : ℕ → List ℕ → List ℕ → List ℕ → Output
write_property f t v buffer =
    cond (leb (length t) max_data_octets && leb (length v) max_data_octets) (placed (line_of f t v) buffer) (refused LineTooLong buffer)
