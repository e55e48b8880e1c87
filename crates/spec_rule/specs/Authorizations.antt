-- Who may issue for one requested name: steps 2 to 4 of the requirements' "rule of issue" (RFC 8659 sections 4.1 to 4.3).
use Rattle.std.specs.Prelude.{ℕ, Bool, true, false, cond, ◌&&◌, List, [], ◌∷◌, Option, None, Some}
use Rattle.spec_octets.specs.Lists.{any, select}
use Rattle.spec_octets.specs.Octets.{same, lowered}
use Rattle.spec_name.specs.Names.{Name}
use Rattle.spec_request.specs.Request.{is_wildcard, base}
use Rattle.spec_issuer.specs.Issuer.{is_issuer}
use Rattle.spec_record.specs.declared.PropertyTag.{PropertyTag}
use Rattle.spec_record.specs.declared.PropertyTag.TheVariants.{Issue, IssueWild, Iodef, Unknown}
use Rattle.spec_record.specs.Property.{is_critical, tag_of}
use Rattle.spec_value.specs.IssueValues.{IssueValue, malformed, nameless, named, issue_value}
use Rattle.spec_value.specs.Parameters.{parameters_in}
use Rattle.spec_applicant.specs.Applicant.{Applicant}
use Rattle.spec_applicant.specs.Admission.{admits}
use Rattle.spec_rule.specs.RelevantSet.{CaaRecord, Book, Lookup, empty, found, endless, relevant_set}

-- What CAA says about one requested name, for one applicant.
pub data Authorization : Type 0 where
  -- CAA doesn't restrict issuance.
  unrestricted : Authorization
  -- A critical property with an unknown tag: nobody may issue. The number of the first such record.
  forbidden : ℕ → Authorization
  -- Issuance is restricted: the number of the first governing record, and the issuers granted, in lower case and in the order of the records.
  granted : ℕ → List (List ℕ) → Authorization
  -- The aliases of a name that was looked at do not end: nobody may issue. The number of the first alias.
  unresolved : ℕ → Authorization

abbrev pub is_issue_tag : PropertyTag → Bool
is_issue_tag Issue = true
is_issue_tag IssueWild = false
is_issue_tag Iodef = false
is_issue_tag Unknown = false

abbrev pub is_issue_wild_tag : PropertyTag → Bool
is_issue_wild_tag Issue = false
is_issue_wild_tag IssueWild = true
is_issue_wild_tag Iodef = false
is_issue_wild_tag Unknown = false

abbrev pub is_unknown_tag : PropertyTag → Bool
is_unknown_tag Issue = false
is_unknown_tag IssueWild = false
is_unknown_tag Iodef = false
is_unknown_tag Unknown = true

abbrev pub property_tag : CaaRecord → PropertyTag
property_tag r = tag_of r.property.tag

-- RFC 8659 section 4.1, Issuer Critical Flag: a critical property with an unknown tag.
unfoldable pub is_unknown_critical : CaaRecord → Bool
is_unknown_critical r = is_critical r.property && is_unknown_tag (property_tag r)

abbrev pub is_issue : CaaRecord → Bool
is_issue r = is_issue_tag (property_tag r)

abbrev pub is_issue_wild : CaaRecord → Bool
is_issue_wild r = is_issue_wild_tag (property_tag r)

abbrev pub or_else : List CaaRecord → List CaaRecord → List CaaRecord
or_else [] others = others
or_else (r ∷ rs) others = r ∷ rs

-- The records that restrict issuance (the requirements' "governing records"). RFC 8659 section 4.2, for X: the issue records. Section 4.3,
-- for *.X: the issuewild records if there are any, otherwise the issue records.
unfoldable pub governing : Bool → List CaaRecord → List CaaRecord
governing wildcard rs = cond wildcard (or_else (select is_issue_wild rs) (select is_issue rs)) (select is_issue rs)

-- The issuer that a governing record grants: the name in its value, in lower case. A value that doesn't match the grammar, has no name, or
-- has one over the limits of issuer domain names grants nobody.
abbrev pub grantee_of_value : IssueValue → Option (List ℕ)
grantee_of_value malformed = None
grantee_of_value nameless = None
grantee_of_value (named n) = cond (is_issuer n) (Some (lowered n)) None

-- A record whose parameters don't admit the applicant (RFC 8657) grants nobody. It still governs.
unfoldable pub grantee : Applicant → CaaRecord → Option (List ℕ)
grantee who r = cond (admits who (parameters_in r.property.value)) (grantee_of_value (issue_value r.property.value)) None

-- There is a grantee, and it is d.
abbrev pub is_grantee : List ℕ → Option (List ℕ) → Bool
is_grantee d None = false
is_grantee d (Some n) = same d n

abbrev pub cons_some : Option (List ℕ) → List (List ℕ) → List (List ℕ)
cons_some None ns = ns
cons_some (Some n) ns = n ∷ ns

abbrev pub grantees : Applicant → List CaaRecord → List (List ℕ)
grantees who [] = []
grantees who (r ∷ rs) = cons_some (grantee who r) (grantees who rs)

-- Without a governing record the name is unrestricted; otherwise it is restricted.
abbrev pub governed_by : Applicant → List CaaRecord → Authorization
governed_by who [] = unrestricted
governed_by who (g ∷ gs) = granted g.number (grantees who (g ∷ gs))

-- A critical record with an unknown tag takes precedence over everything else.
abbrev pub unless_forbidden : List CaaRecord → Authorization → Authorization
unless_forbidden [] a = a
unless_forbidden (u ∷ us) a = forbidden u.number

abbrev pub authorization_from : Applicant → Bool → Lookup → Authorization
authorization_from who wildcard empty = unrestricted
authorization_from who wildcard (found rs) = unless_forbidden (select is_unknown_critical rs) (governed_by who (governing wildcard rs))
authorization_from who wildcard (endless r) = unresolved r

-- For X and for *.X the search starts at X.
unfoldable pub authorization : Applicant → Book → Name → Authorization
authorization who book n = authorization_from who (is_wildcard n) (relevant_set book (base n))

-- Whether the issuer d may issue for a name with this authorization.
abbrev pub permits : List ℕ → Authorization → Bool
permits d unrestricted = true
permits d (forbidden r) = false
permits d (granted r ns) = any (same (lowered d)) ns
permits d (unresolved r) = false
