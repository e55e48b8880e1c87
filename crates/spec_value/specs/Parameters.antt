-- The parameters of an issue value (RFC 8659 section 4.2): each with its tag and its value, in the order of the value.
use Rattle.std.specs.Prelude.{ℕ, cond, List, [], ◌∷◌, map}
use Prim.Native.Char.{code}
use Rattle.spec_octets.specs.Octets.{trim_start, trim_end}
use Rattle.spec_octets.specs.Pieces.{split, join}
use Rattle.spec_value.specs.IssueValues.{trim, is_blank_alone}

pub record Parameter : Type 0 where
  pub tag : List ℕ
  pub value : List ℕ

-- The pieces between the "=" of a parameter. The first "=" separates tag and value, with optional white space on both sides of it.
abbrev pub cut_parameter : List (List ℕ) → Parameter
cut_parameter [] = record { tag = []; value = [] }
cut_parameter (t ∷ vs) = record { tag = trim_end t; value = trim_start (join (code "=") vs) }

-- The parameter in a piece between two semicolons, with optional white space around it.
unfoldable pub parameter_in : List ℕ → Parameter
parameter_in s = cut_parameter (split (code "=") (trim s))

-- The pieces of a value, split at the semicolons: a name, then only white space, or parameters.
abbrev pub behind_name : List (List ℕ) → List Parameter
behind_name [] = []
behind_name (n ∷ ps) = cond (is_blank_alone ps) [] (map parameter_in ps)

-- The parameters of a value that matches the grammar. `issue_value` says whether it does.
unfoldable pub parameters_in : List ℕ → List Parameter
parameters_in s = behind_name (split (code ";") s)
