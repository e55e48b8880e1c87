-- The issuer that CAA data grants to an applicant, and the offsets of its name in the data. Theorems.antt proves that the two agree.
use Rattle.std.specs.Prelude.{ℕ, ◌+◌, ◌-◌, cond, List, length, take, drop, Option, None, Some}
use Rattle.spec_octets.specs.Octets.{lowered}
use Rattle.spec_issuer.specs.Issuer.{is_issuer}
use Rattle.read_property.specs.Places.{value_part}
use Rattle.read_value.specs.declared.NameAt.{NameAt}
use Rattle.read_value.specs.declared.ValueRead.{ValueRead}
use Rattle.read_value.specs.declared.ValueRead.TheVariants.{Malformed, Nameless, Named}
use Rattle.read_value.specs.Places.{value_at}
use Rattle.spec_value.specs.IssueValues.{issue_value}
use Rattle.spec_value.specs.Parameters.{parameters_in}
use Rattle.read_parameters.specs.Parameters.{parameters_behind}
use Rattle.spec_applicant.specs.Applicant.{Applicant}
use Rattle.spec_applicant.specs.Admission.{admits}
use Rattle.spec_rule.specs.Authorizations.{grantee_of_value}

-- The issuer that CAA data grants by its value; nobody if the data is malformed, or its parameters don't admit the applicant.
unfoldable pub grantee_of_data : Applicant → List ℕ → Option (List ℕ)
grantee_of_data who d = cond (admits who (parameters_in (value_part d))) (grantee_of_value (issue_value (value_part d))) None

-- The octets of d between two offsets.
abbrev pub name_at : List ℕ → NameAt → List ℕ
name_at d n = take (n.to - n.from) (drop n.from d)

-- The offsets in d of the name in the value v, which is a suffix of d, and of the parameters after it.
abbrev pub issuer_places : List ℕ → List ℕ → ValueRead → Option NameAt
issuer_places d v Malformed = None
issuer_places d v Nameless = None
issuer_places d v (Named n) =
    cond
    (is_issuer (name_at v n))
    (Some
    (record {
      from = length d - length v + n.from;
      to = length d - length v + n.to;
      parameters = length d - length v + n.parameters;
    }))
    None

-- The issuer that CAA data names, whatever its parameters say.
unfoldable pub issuer_at : List ℕ → Option NameAt
issuer_at d = issuer_places d (value_part d) (value_at (value_part d))

-- The issuer at these offsets, if the parameters there admit the applicant.
abbrev pub if_admitted : Applicant → List ℕ → Option NameAt → Option NameAt
if_admitted who d None = None
if_admitted who d (Some n) = cond (admits who (parameters_behind (drop n.parameters d))) (Some n) None

unfoldable pub grantee_at : Applicant → List ℕ → Option NameAt
grantee_at who d = if_admitted who d (issuer_at d)

-- The issuer at these offsets, in lower case.
abbrev pub grantee_there : List ℕ → Option NameAt → Option (List ℕ)
grantee_there d None = None
grantee_there d (Some n) = Some (lowered (name_at d n))
