-- The issuer domain name in an issue value, and where its parameters begin, as offsets into the value.
use Rattle.std.specs.Prelude.{ℕ, ◌+◌, ◌-◌, cond, List, ltb, length}
use Prim.Native.Char.{code}
use Rattle.spec_octets.specs.Octets.{trim_start}
use Rattle.text_labels.specs.Places.{piece_end}
use Rattle.spec_value.specs.IssueValues.{IssueValue, malformed, nameless, named, issue_value}
use Rattle.read_value.specs.declared.ValueRead.{ValueRead}
use Rattle.read_value.specs.declared.ValueRead.TheVariants.{Malformed, Nameless, Named}

-- The offset after the semicolon at e; the end of the value if none is there.
abbrev pub behind_semicolon : List ℕ → ℕ → ℕ
behind_semicolon s e = cond (ltb e (length s)) (e + 1) (length s)

-- The parameters begin after the first semicolon.
abbrev pub parameters_from : List ℕ → ℕ
parameters_from s = behind_semicolon s (piece_end (code ";") s 0)

-- The name begins after the leading white space. The parameters begin at p.
abbrev pub name_places : List ℕ → ℕ → IssueValue → ValueRead
name_places s p malformed = Malformed
name_places s p nameless = Nameless
name_places s p (named n) =
    Named (record { from = length s - length (trim_start s); to = length s - length (trim_start s) + length n; parameters = p })

unfoldable pub value_at : List ℕ → ValueRead
value_at s = name_places s (parameters_from s) (issue_value s)
