-- The number fields of a TLSA line, as the code writes them.
use Rattle.std.specs.Prelude.{ℕ, List, [], ◌∷◌, ◌++◌}
use Rattle.spec_octets.specs.WrittenDecimal.{decimal}
use Rattle.spec_line.specs.Written.{space}

-- A number and the space behind it; two of them; all three.
unfoldable pub number_field : ℕ → List ℕ
number_field n = decimal n ++ (space ∷ [])

abbrev pub two_numbers : ℕ → ℕ → List ℕ
two_numbers u s = number_field u ++ number_field s

abbrev pub line_head : ℕ → ℕ → ℕ → List ℕ
line_head u s m = two_numbers u s ++ number_field m
