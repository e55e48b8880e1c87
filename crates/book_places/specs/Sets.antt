-- The records of one owner in a chain; where aliases lead; the nearest name, from a name up, where CAA records are found; and tests on such a set. The owner of a
-- record is the name that the record belongs to (RFC 1035, section 3.2.1).
use Rattle.std.specs.Prelude.{ℕ, zero, suc, Bool, true, false, cond, ◌&&◌, ◌||◌, List, [], ◌∷◌, eqb, ltb, length, drop, get_or, Option, None, Some}
use Rattle.spec_limits.specs.Limits.{max_aliases}
use Rattle.spec_refusal.specs.declared.RecordNo.{RecordNo}
use Rattle.spec_octets.specs.Lists.{any, select}
use Rattle.spec_octets.specs.Octets.{lowered, equal_ignoring_case}
use Rattle.read_name.specs.Places.{parent_place}
use Rattle.spec_record.specs.declared.PropertyTag.{PropertyTag}
use Rattle.spec_record.specs.declared.PropertyTag.TheVariants.{Issue, IssueWild, Iodef, Unknown}
use Rattle.spec_record.specs.Property.{Property, property, tag_of, is_critical}
use Rattle.spec_applicant.specs.Applicant.{Applicant}
use Rattle.spec_rule.specs.Authorizations.{is_issue_tag, is_issue_wild_tag, is_unknown_tag, is_grantee}
use Rattle.read_grantee.specs.Places.{grantee_of_data}
use Rattle.book_places.specs.declared.Kind.{Kind}
use Rattle.book_places.specs.declared.Kind.TheVariants.{Caa, CaaOrAlias}
use Rattle.book_places.specs.Table.{owner_at, data_at, is_caa_at, is_alias_at}
use Rattle.book_places.specs.Keys.{key_of}
use Rattle.book_places.specs.Chains.{chain_from}

abbrev pub is_of_kind : Kind → List ℕ → ℕ → Bool
is_of_kind Caa table i = is_caa_at table i
is_of_kind CaaOrAlias table i = is_caa_at table i || is_alias_at table i

-- Record i is of this kind and has the owner x, in wire form.
abbrev pub is_owned_of : Kind → List ℕ → List ℕ → List ℕ → ℕ → Bool
is_owned_of kind book table x i = is_of_kind kind table i && equal_ignoring_case (owner_at book table i) x

-- The records of this kind with the owner x in a chain, from record i on.
unfoldable pub owned_of : Kind → List ℕ → List ℕ → List ℕ → List ℕ → ℕ → List ℕ
owned_of kind book table links x i = select (is_owned_of kind book table x) (chain_from links i)

-- The same for CAA records.
abbrev pub is_owned : List ℕ → List ℕ → List ℕ → ℕ → Bool
is_owned book table x i = is_owned_of Caa book table x i

abbrev pub owned_from : List ℕ → List ℕ → List ℕ → List ℕ → ℕ → List ℕ
owned_from book table links x i = owned_of Caa book table links x i

-- The first record of a list.
abbrev pub first_of : List ℕ → Option RecordNo
first_of [] = None
first_of (i ∷ is) = Some (record { 0 = i })

-- The first record of this kind with the owner x, if there is one. It stands in the chain of the key of x.
unfoldable pub first_owned : Kind → List ℕ → List ℕ → List ℕ → List ℕ → List ℕ → Option RecordNo
first_owned kind book table links heads x = first_of (owned_of kind book table links x (get_or heads (key_of x) (length links)))

-- What comes after a record that was found.
abbrev pub and_then : Option RecordNo → (RecordNo → Option RecordNo) → Option RecordNo
and_then None next = None
and_then (Some r) next = next r

-- A column with a number for each record. For an alias it is the number of the first CAA record or alias whose owner is the alias's target.
-- A number that is not an index of `links` means that there is none.
abbrev pub onward_at : List ℕ → List ℕ → ℕ → Option RecordNo
onward_at links onward i =
    let k = get_or onward i (length links) in
    cond (ltb k (length links)) (Some (record { 0 = k })) None

-- From record r on, at most n aliases are followed. The answer is the first CAA record of the name at the end; or `first`, an alias, where one
-- more would have to be followed.
abbrev pub resolved : ℕ → List ℕ → List ℕ → List ℕ → RecordNo → RecordNo → Option RecordNo
resolved zero table links onward first r = cond (is_alias_at table r.0) (Some first) (Some r)
resolved (suc n) table links onward first r =
    cond (is_alias_at table r.0) (and_then (onward_at links onward r.0) (resolved n table links onward first)) (Some r)

unfoldable pub resolved_from : List ℕ → List ℕ → List ℕ → RecordNo → Option RecordNo
resolved_from table links onward r = resolved max_aliases table links onward r r

-- A lookup of the name x, with its aliases followed.
unfoldable pub looked_up_at : List ℕ → List ℕ → List ℕ → List ℕ → List ℕ → List ℕ → Option RecordNo
looked_up_at book table links heads onward x = and_then (first_owned CaaOrAlias book table links heads x) (resolved_from table links onward)

-- The climb of RFC 8659, section 3. It looks up the name that begins at an offset of s, then its parent, and so on, and stops at the first name
-- whose lookup finds a record. The root is not looked up. At the root `parent_place` gives the offset itself, which ends the climb.
abbrev pub or_next : Option RecordNo → Option RecordNo → Option RecordNo
or_next None next = next
or_next (Some r) next = Some r

abbrev pub nearest_from : ℕ → List ℕ → List ℕ → List ℕ → List ℕ → List ℕ → List ℕ → ℕ → Option RecordNo
nearest_from zero book table links heads onward s at = None
nearest_from (suc steps) book table links heads onward s at =
    cond (eqb (parent_place s at) at) None
    (or_next (looked_up_at book table links heads onward (drop at s)) (nearest_from steps book table links heads onward s (parent_place s at)))

-- The climb from the whole name s: the first record of its relevant set, if there is one; or an alias.
unfoldable pub nearest_record : List ℕ → List ℕ → List ℕ → List ℕ → List ℕ → List ℕ → Option RecordNo
nearest_record book table links heads onward s = nearest_from (length s) book table links heads onward s 0

-- How many labels the same climb takes off: one for each name whose lookup finds nothing.
abbrev pub one_more : Option RecordNo → ℕ → ℕ
one_more None above = suc above
one_more (Some r) above = 0

abbrev pub labels_off_from : ℕ → List ℕ → List ℕ → List ℕ → List ℕ → List ℕ → List ℕ → ℕ → ℕ
labels_off_from zero book table links heads onward s at = 0
labels_off_from (suc steps) book table links heads onward s at =
    cond (eqb (parent_place s at) at) 0
    (one_more (looked_up_at book table links heads onward (drop at s)) (labels_off_from steps book table links heads onward s (parent_place s at)))

-- How many labels the climb from the whole name s takes off, up to the name where it finds a record: 0 at s itself. If it finds none, all labels.
unfoldable pub labels_off_at : List ℕ → List ℕ → List ℕ → List ℕ → List ℕ → List ℕ → ℕ
labels_off_at book table links heads onward s = labels_off_from (length s) book table links heads onward s 0

-- The set that is named by its first record: all CAA records with the same owner, from there on along the chain.
unfoldable pub set_at : List ℕ → List ℕ → List ℕ → ℕ → List ℕ
set_at book table links first = owned_from book table links (owner_at book table first) first

-- Whether two tags are the same.
abbrev pub same_tag : PropertyTag → PropertyTag → Bool
same_tag Issue t = is_issue_tag t
same_tag IssueWild t = is_issue_wild_tag t
same_tag Iodef Issue = false
same_tag Iodef IssueWild = false
same_tag Iodef Iodef = true
same_tag Iodef Unknown = false
same_tag Unknown t = is_unknown_tag t

-- Tests on CAA data: it has this tag; it is critical with an unknown tag; it grants this issuer to an applicant. Malformed data passes none of them.
abbrev pub holds_tag : PropertyTag → Option Property → Bool
holds_tag tag None = false
holds_tag tag (Some p) = same_tag tag (tag_of p.tag)

unfoldable pub data_has_tag : PropertyTag → List ℕ → Bool
data_has_tag tag d = holds_tag tag (property d)

abbrev pub holds_unknown_critical : Option Property → Bool
holds_unknown_critical None = false
holds_unknown_critical (Some p) = is_critical p && is_unknown_tag (tag_of p.tag)

unfoldable pub data_is_unknown_critical : List ℕ → Bool
data_is_unknown_critical d = holds_unknown_critical (property d)

unfoldable pub data_grants : Applicant → List ℕ → List ℕ → Bool
data_grants who issuer d = is_grantee (lowered issuer) (grantee_of_data who d)

-- The records of a set whose data passes a test.
abbrev pub in_set : (List ℕ → Bool) → List ℕ → List ℕ → List ℕ → ℕ → List ℕ
in_set test book table links first = select (λ i. test (data_at book table i)) (set_at book table links first)

-- Three questions to a set: which is its first critical record with an unknown tag; which is its first record with this tag; and does any record
-- with this tag grant this issuer to the applicant?
unfoldable pub first_unknown_critical : List ℕ → List ℕ → List ℕ → ℕ → Option RecordNo
first_unknown_critical book table links first = first_of (in_set data_is_unknown_critical book table links first)

unfoldable pub first_tagged : PropertyTag → List ℕ → List ℕ → List ℕ → ℕ → Option RecordNo
first_tagged tag book table links first = first_of (in_set (data_has_tag tag) book table links first)

unfoldable pub set_grants : Applicant → PropertyTag → List ℕ → List ℕ → List ℕ → List ℕ → ℕ → Bool
set_grants who tag issuer book table links first =
    any (λ i. data_grants who issuer (data_at book table i)) (in_set (data_has_tag tag) book table links first)
