-- What CAA says about one requested name, found by the table and the chains of a book. `meaning` turns that answer into the rule's own value,
-- `Authorization` of spec_rule.
use Rattle.std.specs.Prelude.{ℕ, ◌+◌, ◌*◌, ◌/◌, ◌%◌, Bool, true, false, cond, List, [], ◌∷◌, eqb, Option, Some, None}
use Rattle.spec_refusal.specs.declared.RecordNo.{RecordNo}
use Rattle.spec_record.specs.declared.PropertyTag.{PropertyTag}
use Rattle.spec_record.specs.declared.PropertyTag.TheVariants.{Issue, IssueWild}
use Rattle.spec_applicant.specs.Applicant.{Applicant}
use Rattle.spec_rule.specs.Authorizations.{Authorization, unrestricted, forbidden, granted, unresolved, cons_some}
use Rattle.read_grantee.specs.Places.{grantee_of_data}
use Rattle.book_places.specs.declared.NameAuthorization.{NameAuthorization}
use Rattle.book_places.specs.declared.NameAuthorization.TheVariants.{Unrestricted, Forbidden, Governed, Unresolved}
use Rattle.book_places.specs.Table.{data_at, is_alias_at}
use Rattle.book_places.specs.Sets.{nearest_record, data_has_tag, in_set, first_unknown_critical, first_tagged}

-- A question: what does this relevant set say about X, or about *.X? A set is named by the number of its first record. The number of a question
-- is twice that number, and one more for *.X. It fits 16 bits.
unfoldable pub question_number : RecordNo → Bool → ℕ
question_number set wildcard = 2 * (set.0 % 32768) + cond wildcard 1 0

module _ (book table links : List ℕ) where
  -- The answer where the first record of the set with this tag is known: if there is one, the records with this tag govern. If not, `otherwise`.
  abbrev pub governed_by : RecordNo → PropertyTag → Option RecordNo → NameAuthorization → NameAuthorization
  governed_by set tag None otherwise = otherwise
  governed_by set tag (Some r) otherwise = Governed (record { set = set; first = r; tag = tag })

  -- The issue records govern; without any, the name is unrestricted.
  abbrev pub by_issue : RecordNo → NameAuthorization
  by_issue set = governed_by set Issue (first_tagged Issue book table links set.0) Unrestricted

  -- For X the issue records govern. For *.X the issuewild records govern if there are any, else the issue records.
  abbrev pub by_tags : Bool → RecordNo → NameAuthorization
  by_tags false set = by_issue set
  by_tags true set = governed_by set IssueWild (first_tagged IssueWild book table links set.0) (by_issue set)

  -- A critical record with an unknown tag forbids, whatever else the set holds.
  abbrev pub unless_critical : Option RecordNo → NameAuthorization → NameAuthorization
  unless_critical None otherwise = otherwise
  unless_critical (Some r) otherwise = Forbidden r

  -- What a relevant set says about X (`wildcard` is false), or about *.X. An alias stands for aliases that can't be followed to their end.
  unfoldable pub set_authorization : Bool → RecordNo → NameAuthorization
  set_authorization wildcard set =
      cond (is_alias_at table set.0) (Unresolved set) (unless_critical (first_unknown_critical book table links set.0) (by_tags wildcard set))

  -- The same where there may be no relevant set: then the name is unrestricted.
  abbrev pub by_set : Bool → Option RecordNo → NameAuthorization
  by_set wildcard None = Unrestricted
  by_set wildcard (Some set) = set_authorization wildcard set

  -- The answer to the question with this number.
  unfoldable pub answer_to : ℕ → NameAuthorization
  answer_to question = set_authorization (eqb (question % 2) 1) (record { 0 = question / 2 })

  -- What CAA says about the name x, which is in wire form, or about *.x.
  unfoldable pub name_authorization : List ℕ → List ℕ → List ℕ → Bool → NameAuthorization
  name_authorization heads onward x wildcard = by_set wildcard (nearest_record book table links heads onward x)

module _ (who : Applicant) (book table links : List ℕ) where
  -- The issuers that a list of records grants to the applicant, in the order of the records.
  abbrev pub grantees_at : List ℕ → List (List ℕ)
  grantees_at [] = []
  grantees_at (i ∷ is) = cons_some (grantee_of_data who (data_at book table i)) (grantees_at is)

  -- The issuers that the records of a set with this tag grant.
  unfoldable pub set_grantees : PropertyTag → ℕ → List (List ℕ)
  set_grantees tag first = grantees_at (in_set (data_has_tag tag) book table links first)

  -- The answer as the rule's own value.
  abbrev pub meaning : NameAuthorization → Authorization
  meaning Unrestricted = unrestricted
  meaning (Forbidden r) = forbidden r.0
  meaning (Governed g) = granted g.first.0 (set_grantees g.tag g.set.0)
  meaning (Unresolved r) = unresolved r.0
