-- The two calls: from any octets to one answer, and to the contents of the caller's buffer afterwards.
use Rattle.std.specs.Prelude.{ℕ, cond, List, [], ◌∷◌, ◌++◌, map, leb, length, drop, Option, None, Some}
use Rattle.spec_refusal.specs.declared.Refusal.{Refusal}
use Rattle.spec_refusal.specs.declared.Refusal.TheVariants.{NoRoom}
use Rattle.spec_refusal.specs.Refusal.{number, place}
use Rattle.spec_request.specs.Request.{requested_names, request_refusal}
use Rattle.spec_issuer.specs.Issuer.{issuer_refusal}
use Rattle.spec_applicant.specs.Applicant.{Applicant, applicant_refusal}
use Rattle.spec_record.specs.Records.{records, book_refusal}
use Rattle.spec_rule.specs.declared.Judgement.{Judgement}
use Rattle.spec_rule.specs.declared.Judgement.TheVariants.{Permitted, UnknownCritical, NotGranted, TooManyAliases, Refused}
use Rattle.spec_rule.specs.declared.PermittedIssuers.{PermittedIssuers}
use Rattle.spec_rule.specs.declared.PermittedIssuers.TheVariants.{Anyone, Listed, Refused as ListRefused}
use Rattle.spec_rule.specs.RelevantSet.{as_book}
use Rattle.spec_rule.specs.Authorizations.{Authorization, authorization}
use Rattle.spec_rule.specs.Verdicts.{Decision, decision, verdict}
use Rattle.spec_rule.specs.IssuerLists.{Issuers, anyone, listed, issuers, entries}

-- What CAA says about each requested name, by the records of the book, for the applicant.
unfoldable pub authorizations : List ℕ → Applicant → List ℕ → List Authorization
authorizations request who book = map (authorization who (as_book (records book))) (requested_names request)

-- The same, with the labels taken off each name.
unfoldable pub decisions : List ℕ → Applicant → List ℕ → List Decision
decisions request who book = map (decision who (as_book (records book))) (requested_names request)

-- Checks in their order, each a refusal or none: the first refusal is the answer.
abbrev pub first_refusal : List (Option Refusal) → Option Refusal
first_refusal [] = None
first_refusal (None ∷ checks) = first_refusal checks
first_refusal (Some r ∷ checks) = Some r

-- May this issuer issue?
abbrev pub judge_checks : List ℕ → List ℕ → Applicant → List ℕ → List (Option Refusal)
judge_checks request issuer who book = request_refusal request ∷ issuer_refusal issuer ∷ applicant_refusal who ∷ book_refusal book ∷ []

abbrev pub refused_or : Option Refusal → Judgement → Judgement
refused_or None j = j
refused_or (Some r) j = Refused r

unfoldable pub judge : List ℕ → List ℕ → Applicant → List ℕ → Judgement
judge request issuer who book =
    refused_or (first_refusal (judge_checks request issuer who book)) (verdict issuer (decisions request who book))

-- Who may issue? The answer, and the buffer afterwards.
pub record Listing : Type 0 where
  pub answer : PermittedIssuers
  pub buffer : List ℕ

abbrev pub room_refusal : Issuers → List ℕ → Option Refusal
room_refusal anyone buffer = None
room_refusal (listed ns) buffer = cond (leb (length (entries ns)) (length buffer)) None (Some (NoRoom (length (entries ns))))

abbrev pub list_checks : List ℕ → Applicant → List ℕ → List ℕ → List (Option Refusal)
list_checks request who book buffer =
    request_refusal request
    ∷ applicant_refusal who
    ∷ book_refusal book
    ∷ room_refusal (issuers (authorizations request who book)) buffer
    ∷ []

-- The entries are written at the start of the buffer. Its other octets are unchanged.
abbrev pub written : Issuers → List ℕ → Listing
written anyone buffer = record { answer = Anyone; buffer = buffer }
written (listed ns) buffer =
    record { answer = Listed (length ns) (length (entries ns)); buffer = entries ns ++ drop (length (entries ns)) buffer }

abbrev pub unless_refused : Option Refusal → Listing → List ℕ → Listing
unless_refused None l buffer = l
unless_refused (Some r) l buffer = record { answer = ListRefused r; buffer = buffer }

unfoldable pub list_issuers : List ℕ → Applicant → List ℕ → List ℕ → Listing
list_issuers request who book buffer =
    unless_refused (first_refusal (list_checks request who book buffer)) (written (issuers (authorizations request who book)) buffer) buffer

-- The number and the values of each answer. The requirements give the numbers, except 30 and 31, which are this project's own.
pub record AnswerCode : Type 0 where
  pub number : ℕ
  pub values : List ℕ

abbrev pub refusal_code : Refusal → AnswerCode
refusal_code r = record { number = number r; values = place r ∷ [] }

unfoldable pub judgement_code : Judgement → AnswerCode
judgement_code Permitted = record { number = 0; values = [] }
judgement_code (UnknownCritical d) = record { number = 20; values = d.name.0 ∷ d.rr.0 ∷ d.up.0 ∷ [] }
judgement_code (NotGranted d) = record { number = 21; values = d.name.0 ∷ d.rr.0 ∷ d.up.0 ∷ [] }
judgement_code (TooManyAliases d) = record { number = 22; values = d.name.0 ∷ d.rr.0 ∷ d.up.0 ∷ [] }
judgement_code (Refused r) = refusal_code r

unfoldable pub permitted_issuers_code : PermittedIssuers → AnswerCode
permitted_issuers_code Anyone = record { number = 30; values = [] }
permitted_issuers_code (Listed count octets) = record { number = 31; values = octets ∷ count ∷ [] }
permitted_issuers_code (ListRefused r) = refusal_code r
