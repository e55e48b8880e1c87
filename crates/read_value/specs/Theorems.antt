-- What the definitions of this crate mean. Each statement is proved under its name in proofs/.
use Rattle.std.specs.Prelude.{ℕ, ◌-◌, ◌≡◌, List, take, drop}
use Rattle.spec_value.specs.IssueValues.{named, issue_value}
use Rattle.spec_value.specs.Parameters.{parameters_in}
use Rattle.read_parameters.specs.Parameters.{parameters_behind}
use Rattle.read_value.specs.declared.NameAt.{NameAt}
use Rattle.read_value.specs.declared.ValueRead.TheVariants.{Named}
use Rattle.read_value.specs.Places.{value_at}

-- One reading gives the name and the parameters: both stand at the offsets returned.
abbrev pub ValueByPlace : Type 0
ValueByPlace =
    (s : List ℕ) (n : NameAt) → value_at s ≡ Named n →
    (issue_value s ≡ named (take (n.to - n.from) (drop n.from s))) × (parameters_in s ≡ parameters_behind (drop n.parameters s))
