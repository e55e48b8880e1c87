-- CAA data (RFC 8659 section 4.1): one property, with its flags, tag and value.
use Rattle.std.specs.Prelude.{ℕ, ◌/◌, ◌%◌, Bool, cond, List, ◌∷◌, ◌++◌, leb, eqb, length, Option, None, Some}
use Rattle.spec_octets.specs.Octets.{text, equal_ignoring_case}
use Rattle.spec_octets.specs.Reader.{Reader, given, ◌>>=◌, octet, octets, remainder}
use Rattle.spec_record.specs.declared.PropertyTag.{PropertyTag}
use Rattle.spec_record.specs.declared.PropertyTag.TheVariants.{Issue, IssueWild, Iodef, Unknown}

pub record Property : Type 0 where
  pub flags : ℕ
  pub tag : List ℕ
  pub value : List ℕ

-- Flags (1 octet), tag length n (1), tag (n), value (all remaining octets).
abbrev pub wire_property : Property → List ℕ
wire_property p = p.flags ∷ length p.tag ∷ (p.tag ++ p.value)

-- The tag length is at least 1, and the data has that many octets left.
unfoldable pub read_property : Reader Property
read_property = do
  f ← octet
  n ← octet
  t ← octets n
  v ← remainder
  given (leb 1 n) (record { flags = f; tag = t; value = v })

-- The property in CAA data; none if the data is malformed.
abbrev pub found : Option (Property × List ℕ) → Option Property
found None = None
found (Some r) = Some r.0

unfoldable pub property : List ℕ → Option Property
property d = found (read_property d)

-- RFC 8659 section 4.1, Issuer Critical Flag: bit 0, the most significant bit, of value 128. The other seven bits are ignored.
unfoldable pub is_critical : Property → Bool
is_critical p = eqb (p.flags / 128 % 2) 1

-- RFC 8659 section 4.1: "Matching of tags is case insensitive"
unfoldable pub tag_of : List ℕ → PropertyTag
tag_of t =
    cond (equal_ignoring_case t (text "issue")) Issue
    (cond (equal_ignoring_case t (text "issuewild")) IssueWild (cond (equal_ignoring_case t (text "iodef")) Iodef Unknown))
