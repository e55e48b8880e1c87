-- Values of issue and issuewild properties (RFC 8659 section 4.2): which match the grammar, and the issuer domain name in them.
use Rattle.std.specs.Prelude.{ℕ, Bool, false, cond, ◌&&◌, ◌||◌, List, [], ◌∷◌}
use Prim.Native.Char.{code}
use Rattle.spec_octets.specs.Lists.{all, is_empty}
use Rattle.spec_octets.specs.Octets.{is_blank, is_parameter_octet, trim_start, trim_end}
use Rattle.spec_octets.specs.Label.{is_label}
use Rattle.spec_octets.specs.Pieces.{split, join}

pub data IssueValue : Type 0 where
  -- The value doesn't match the grammar.
  malformed : IssueValue
  -- It matches, without an issuer domain name.
  nameless : IssueValue
  -- It matches, with this issuer domain name.
  named : List ℕ → IssueValue

-- Removes white space at both ends.
abbrev pub trim : List ℕ → List ℕ
trim s = trim_start (trim_end s)

-- issuer-domain-name: labels joined by single dots.
unfoldable pub is_domain_name : List ℕ → Bool
is_domain_name s = all is_label (split (code ".") s)

-- The tag of a parameter has the form of a label: letters, digits and hyphens, with no hyphen first or last. Not empty.
unfoldable pub is_parameter_tag : List ℕ → Bool
is_parameter_tag t = is_label t

-- Tag, white space, "=", white space, value. The first "=" separates tag and value.
abbrev pub is_tag_and_value : List (List ℕ) → Bool
is_tag_and_value [] = false
is_tag_and_value (t ∷ []) = false
is_tag_and_value (t ∷ v ∷ vs) = is_parameter_tag (trim_end t) && all is_parameter_octet (trim_start (join (code "=") (v ∷ vs)))

-- A parameter with optional white space around it.
unfoldable pub is_parameter : List ℕ → Bool
is_parameter s = is_tag_and_value (split (code "=") (trim s))

-- The pieces after the first semicolon, split at the other semicolons: only white space, or parameters. No pieces without a semicolon.
abbrev pub is_blank_alone : List (List ℕ) → Bool
is_blank_alone [] = false
is_blank_alone (p ∷ []) = all is_blank p
is_blank_alone (p ∷ q ∷ ps) = false

unfoldable pub are_parameters : List (List ℕ) → Bool
are_parameters ps = is_blank_alone ps || all is_parameter ps

-- A name with optional white space around it, or only white space.
abbrev pub name_in : List ℕ → IssueValue
name_in n = cond (is_empty n) nameless (cond (is_domain_name n) (named n) malformed)

abbrev pub from_pieces : List (List ℕ) → IssueValue
from_pieces [] = malformed
from_pieces (n ∷ ps) = cond (are_parameters ps) (name_in (trim n)) malformed

-- An optional name before the first semicolon, optional parameters after it.
unfoldable pub issue_value : List ℕ → IssueValue
issue_value s = from_pieces (split (code ";") s)
