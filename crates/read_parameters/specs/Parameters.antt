-- Parameters of issue values, as text.
use Rattle.std.specs.Prelude.{ℕ, Bool, List, ◌∷◌}
use Prim.Native.Char.{code}
use Rattle.spec_octets.specs.Pieces.{split}
use Rattle.spec_value.specs.IssueValues.{are_parameters}
use Rattle.spec_value.specs.Parameters.{Parameter, parameters_in}

-- The octets after the first semicolon of a value.
abbrev pub are_parameters_in : List ℕ → Bool
are_parameters_in s = are_parameters (split (code ";") s)

-- The parameters in the octets after the first semicolon of a value.
abbrev pub parameters_behind : List ℕ → List Parameter
parameters_behind s = parameters_in (code ";" ∷ s)
