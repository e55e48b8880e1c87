-- What the definitions of this crate mean. Each statement is proved under its name in proofs/.
use Rattle.std.specs.Prelude.{ℕ, ◌≡◌, ◌↔◌, List, map}
use Rattle.spec_value.specs.IssueValues.{malformed, nameless, named, issue_value}
use Rattle.spec_value.specs.Productions.{value_without_name, value_with_name, value_of}
use Rattle.spec_value.specs.ValueEdges.{value_edges}
use Rattle.spec_value.specs.Parameters.{Parameter, parameters_in}
use Rattle.spec_value.specs.ParameterEdges.{parameter_edges}

-- issue_value accepts exactly the values that the productions match. A value has at most one name.
abbrev pub ValueIsTheGrammar : Type 0
ValueIsTheGrammar =
    (s : List ℕ) →
    ((n : List ℕ) → (issue_value s ≡ named n) ↔ value_with_name n s)
    × ((issue_value s ≡ nameless) ↔ value_without_name s)
    × ((issue_value s ≡ malformed) ↔ (((n : List ℕ) → value_with_name n s → ⊥) × (value_without_name s → ⊥)))

-- Each value of the table ValueEdges.antt is read as the requirements say.
abbrev pub ValueEdges : Type 0
ValueEdges = map (λ r. issue_value r.0) value_edges ≡ map (λ r. r.1) value_edges

-- A value is read with the name n and the parameters ps exactly when the productions match it with these. So it has no others.
abbrev pub ParametersByTheGrammar : Type 0
ParametersByTheGrammar =
    (s n : List ℕ) (ps : List Parameter) → ((issue_value s ≡ named n) × (parameters_in s ≡ ps)) ↔ value_of n ps s

-- The productions that name the parameters match the same values as those of RFC 8659.
abbrev pub ProductionsAgree : Type 0
ProductionsAgree = (s n : List ℕ) → value_with_name n s ↔ ((ps : List Parameter) × value_of n ps s)

-- Each value of the table ParameterEdges.antt has the parameters that the table says.
abbrev pub ParameterEdges : Type 0
ParameterEdges = map (λ r. parameters_in r.0) parameter_edges ≡ map (λ r. r.1) parameter_edges
