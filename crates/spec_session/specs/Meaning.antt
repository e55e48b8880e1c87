-- What the theorems on sessions say, without a reader and without the steps.
use Rattle.std.specs.Prelude.{ℕ, zero, suc, ◌<◌, ◌≡◌, ◌≢◌, ◌⊎◌, Bool, List, [], ◌∷◌, ◌++◌, map, length, Option, None, Some}
use Rattle.spec_limits.specs.Limits.{max_aliases}
use Rattle.spec_refusal.specs.declared.Refusal.{Refusal}
use Rattle.spec_refusal.specs.declared.Refusal.TheVariants.{RequestTooLong, BadName, SessionEnded}
use Rattle.spec_octets.specs.Lists.{All, First}
use Rattle.spec_octets.specs.Octets.{Octets, lowered}
use Rattle.spec_name.specs.Names.{Name, wire}
use Rattle.spec_request.specs.Request.{base, GoodRequested}
use Rattle.spec_request.specs.Theorems.{Row1}
use Rattle.spec_issuer.specs.Issuer.{WellFormed}
use Rattle.spec_issuer.specs.Theorems.{IssuerRow}
use Rattle.spec_applicant.specs.Applicant.{Applicant}
use Rattle.spec_applicant.specs.Meaning.{GoodApplicant}
use Rattle.spec_applicant.specs.Theorems.{ApplicantRow}
use Rattle.spec_record.specs.Property.{Property}
use Rattle.spec_record.specs.Records.{records}
use Rattle.spec_record.specs.Theorems.{BookRow}
use Rattle.spec_rule.specs.declared.Judgement.{Judgement}
use Rattle.spec_rule.specs.declared.Judgement.TheVariants.{Permitted, UnknownCritical, NotGranted, TooManyAliases}
use Rattle.spec_rule.specs.Aliases.{Alias, aliases_of}
use Rattle.spec_rule.specs.RelevantSet.{CaaRecord, Book, as_book, Lookup, found, endless, caa_at}
use Rattle.spec_rule.specs.Meaning.{EndsAt, UnknownCriticalRecord, Governs}
use Rattle.spec_rule.specs.Verdicts.{denial}
use Rattle.spec_session.specs.declared.Session.{Session}
use Rattle.spec_session.specs.Sessions.{held, kept_applicant, asked}
use Rattle.spec_session.specs.Steps.{Answer, book, lookup_failed}

-- Row 2 for a request of one name, with its place: no valid name at the front (0), or octets behind one (1).
abbrev pub NoName : List ℕ → Type 0
NoName s = (n : Name) (rest : List ℕ) → s ≡ wire n ++ rest → GoodRequested n → ⊥

abbrev pub MoreThanOneName : List ℕ → Type 0
MoreThanOneName s = (n : Name) × (rest : List ℕ) × (s ≡ wire n ++ rest) × GoodRequested n × (rest ≢ [])

abbrev pub OneName2 : List ℕ → ℕ → Type 0
OneName2 s k = ((k ≡ 0) × NoName s) ⊎ ((k ≡ 1) × MoreThanOneName s)

-- The same by refusal.
abbrev pub OneNameRow : List ℕ → Refusal → Type 0
OneNameRow s r = ((r ≡ RequestTooLong) × Row1 s) ⊎ ((k : ℕ) × (r ≡ BadName (record { 0 = k })) × OneName2 s k)

-- The rows of opening a session.
abbrev pub OpenRow : List ℕ → List ℕ → Applicant → Refusal → Type 0
OpenRow request issuer who r = OneNameRow request r ⊎ IssuerRow issuer r ⊎ ApplicantRow who r

-- The rows of an answer to a session: by a book, and by a failure.
abbrev pub EndedRow : Session → Refusal → Type 0
EndedRow s r = (r ≡ SessionEnded) × (asked s ≡ None)

abbrev pub AnswerRow : Session → Answer → Refusal → Type 0
AnswerRow s (book b) r = EndedRow s r ⊎ BookRow b r
AnswerRow s lookup_failed r = EndedRow s r

-- A book that comes as an answer is made of octets.
abbrev pub OctetsOf : Answer → Type 0
OctetsOf (book b) = Octets b
OctetsOf lookup_failed = Octets []

-- The request is the one valid name n, and the issuer domain name, account and method keep to their rules.
pub record GoodOpening (request issuer : List ℕ) (who : Applicant) (n : Name) : Type 0 where
  pub are_octets : Octets request
  pub one_name : request ≡ wire n
  pub valid : GoodRequested n
  pub well_formed : WellFormed issuer
  pub applicant : GoodApplicant who

-- A session whose kept texts and whose number of labels taken off keep to their rules.
abbrev pub KeptWell : Session → Type 0
KeptWell s =
    (n : Name) × (held s.name ≡ wire n) × GoodRequested n × (s.up < length (base n)) × WellFormed (held s.issuer)
    × GoodApplicant (kept_applicant s)

-- The targets of at most n aliases, one after the other, from x on.
abbrev pub onward : List Alias → (Name → List Name) → List Name
onward [] follow = []
onward (a ∷ al) follow = a.target ∷ follow a.target

abbrev pub targets : ℕ → List Alias → Name → List Name
targets zero al x = []
targets (suc n) al x = onward (aliases_of al x) (targets n al)

abbrev pub properties_of : List CaaRecord → List Property
properties_of rs = map (λ r. r.property) rs

-- The book `part` has for x what `whole` has: the same chain of aliases as far as a ninth one, ignoring case, and for the name at which the chain
-- ends the same properties in the same order. Other records, times to live and numbers may differ.
abbrev pub HoldsAs : Book → Book → Name → Type 0
HoldsAs whole part x =
    (map (map lowered) (targets (suc max_aliases) part.aliases x) ≡ map (map lowered) (targets (suc max_aliases) whole.aliases x))
    × ((y : Name) → EndsAt whole.aliases x y → properties_of (caa_at part.caa y) ≡ properties_of (caa_at whole.caa y))

-- An accepted answer is a book that has for the name asked for what the whole book has. "Lookup failed" is no such answer.
abbrev pub Agrees : List ℕ → Option Name × Answer → Type 0
Agrees whole p =
    (x : Name) × (b : List ℕ) × (p.0 ≡ Some x) × (p.1 ≡ book b) × HoldsAs (as_book (records whole)) (as_book (records b)) x

-- The record number of a verdict is that of the lookup l: the first unknown critical record, the first governing record, the first alias. The
-- name number is 0, and u labels are taken off.
abbrev pub NumberedBy : Bool → Lookup → ℕ → Judgement → Type 0
NumberedBy wildcard l u j =
    (j ≡ Permitted)
    ⊎ ((rs : List CaaRecord) × (c : CaaRecord) × (l ≡ found rs) × First UnknownCriticalRecord rs c × (j ≡ UnknownCritical (denial 0 c.number u)))
    ⊎ ((rs : List CaaRecord) × (c : CaaRecord) × (l ≡ found rs) × All (λ q. UnknownCriticalRecord q → ⊥) rs × First (Governs wildcard rs) rs c
    × (j ≡ NotGranted (denial 0 c.number u)))
    ⊎ ((r : ℕ) × (l ≡ endless r) × (j ≡ TooManyAliases (denial 0 r u)))
