-- What the definitions of this crate mean. Each statement is proved under its name in proofs/.
use Rattle.std.specs.Prelude.{ℕ, ◌≡◌, List, None, Some}
use Rattle.spec_record.specs.Property.{property}
use Rattle.spec_applicant.specs.Applicant.{Applicant}
use Rattle.spec_rule.specs.RelevantSet.{CaaRecord}
use Rattle.spec_rule.specs.Authorizations.{grantee}
use Rattle.read_grantee.specs.Places.{grantee_of_data, grantee_at, grantee_there}

-- Data grants the same issuer as a record with this data.
abbrev pub GranteeOfData : Type 0
GranteeOfData =
    (who : Applicant) (d : List ℕ) →
    ((c : CaaRecord) → property d ≡ Some c.property → grantee_of_data who d ≡ grantee who c) × (property d ≡ None → grantee_of_data who d ≡ None)

-- The offsets of the issuer give that same issuer.
abbrev pub GranteeByPlace : Type 0
GranteeByPlace = (who : Applicant) (d : List ℕ) → grantee_there d (grantee_at who d) ≡ grantee_of_data who d
