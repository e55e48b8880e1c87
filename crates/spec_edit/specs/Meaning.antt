-- What an edit can touch, as statements about names and records, without the search. The theorems use these.
use Rattle.std.specs.Prelude.{ℕ, ◌≤◌, ◌<◌, ◌≡◌, ◌≢◌, ◌⊎◌, List, map, length, drop}
use Rattle.spec_limits.specs.Limits.{max_aliases}
use Rattle.spec_refusal.specs.declared.Refusal.{Refusal}
use Rattle.spec_octets.specs.Lists.{Selects}
use Rattle.spec_octets.specs.Octets.{lowered}
use Rattle.spec_name.specs.Names.{Name, wire, GoodName}
use Rattle.spec_request.specs.Request.{base}
use Rattle.spec_request.specs.Theorems.{RequestRow}
use Rattle.spec_record.specs.Records.{Record}
use Rattle.spec_record.specs.Theorems.{BookRow}
use Rattle.spec_applicant.specs.Applicant.{Applicant}
use Rattle.spec_rule.specs.RelevantSet.{Book}
use Rattle.spec_rule.specs.Meaning.{Leads}
use Rattle.spec_rule.specs.Calls.{judge, list_issuers}
use Rattle.spec_rule.specs.Theorems.{renumbered_verdict}

-- The owner o is not this name: whole names, ignoring case.
abbrev pub Apart : Name → Name → Type 0
Apart o x = map lowered o ≢ map lowered x

-- "that owner is neither X nor above X [..] (the root isn't counted as above), and none of the first 8 aliases from X or from a name above X [..]
-- leads to it". X and the names above it are X without its first k labels, as long as one label is left.
abbrev pub Untouched : Book → Name → Name → Type 0
Untouched book o n =
    (k : ℕ) → k < length (base n) →
    Apart o (drop k (base n))
    × ((j : ℕ) (y : Name) → 1 ≤ j → j ≤ max_aliases → Leads book.aliases j (drop k (base n)) y → Apart o y)

-- "differ only in records of one owner, the others all kept in the same order": the records of all other owners are the same list in both. Those
-- of o may be any, of any type and at any place.
abbrev pub DifferOnlyAt : Name → List Record → List Record → Type 0
DifferOnlyAt o old new =
    (others : List Record) × Selects (λ r. Apart o r.owner) old others × Selects (λ r. Apart o r.owner) new others

-- For every issuer domain name, account and method both books give the same verdict, name and labels taken off: all of the answer but the record
-- number. And in every buffer they give the same list: its answer and its octets.
pub record SameAnswers (request old new : List ℕ) : Type 0 where
  pub judged : (issuer : List ℕ) (who : Applicant) →
      renumbered_verdict (λ r. 0) (judge request issuer who new) ≡ renumbered_verdict (λ r. 0) (judge request issuer who old)
  pub listed : (who : Applicant) (buffer : List ℕ) → list_issuers request who new buffer ≡ list_issuers request who old buffer

-- The rows of the call that stand in the requirements' table already.
abbrev pub EditRow : List ℕ → List ℕ → Refusal → Type 0
EditRow request book r = RequestRow request r ⊎ BookRow book r

-- Row 17: "An owner that breaks [the] owner rule, or has octets after it"
abbrev pub Row17 : List ℕ → Type 0
Row17 owner = (o : Name) → owner ≡ wire o → GoodName o → ⊥
