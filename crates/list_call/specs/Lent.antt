-- What is known on the way: the inputs are accepted, and what is lent for the list has room for the records of the book.
use Rattle.std.specs.Prelude.{ℕ, ◌*◌, ◌≡◌, List, replicate, Option, None}
use Rattle.spec_limits.specs.Limits.{max_records}
use Rattle.spec_request.specs.Request.{request_refusal}
use Rattle.spec_applicant.specs.Applicant.{Applicant, applicant_refusal}
use Rattle.spec_record.specs.Records.{book_refusal}
use Rattle.spec_rule.specs.declared.PermittedIssuers.{PermittedIssuers}
use Rattle.spec_rule.specs.IssuerLists.{issuers}
use Rattle.spec_rule.specs.Calls.{authorizations, list_issuers}
use Rattle.book_places.specs.Table.{room_for}
use Rattle.book_places.specs.Chains.{no_record}
use Rattle.book_index.specs.Indexes.{Blank}
use Rattle.list_places.specs.declared.Permitted.{Permitted}
use Rattle.list_places.specs.PermittedBy.{issuers_in}

-- What the inner function is lent: an accepted request and book, and empty arrays with room for the records of the book.
pub record Lent (who : Applicant) (request book table links heads onward names rounds : List ℕ) : Type 0 where
  pub names_good : request_refusal request ≡ None
  pub applicant_good : applicant_refusal who ≡ None
  pub records_good : book_refusal book ≡ None
  pub blank : Blank book table links heads onward
  pub candidates : names ≡ replicate (2 * room_for book) 0
  pub first_round : rounds ≡ replicate (room_for book) 0

-- The same for the heads of the chains alone, before the size of the other arrays is chosen.
pub record HeadsLent (who : Applicant) (request book heads : List ℕ) : Type 0 where
  pub names_good : request_refusal request ≡ None
  pub applicant_good : applicant_refusal who ≡ None
  pub records_good : book_refusal book ≡ None
  pub headed : heads ≡ replicate max_records no_record

-- The candidates and their rounds are those who may issue, by the rule.
pub record Found (who : Applicant) (request book names rounds : List ℕ) (p : Option Permitted) : Type 0 where
  pub names_good : request_refusal request ≡ None
  pub applicant_good : applicant_refusal who ≡ None
  pub records_good : book_refusal book ≡ None
  pub issuers_found : issuers_in book (record { answer = p; names = names; rounds = rounds }) ≡ issuers (authorizations request who book)

-- The answer, and the buffer afterwards, are those of the call, for every applicant and request whose issuers were found.
abbrev pub ListPut : List ℕ → List ℕ → List ℕ → Option Permitted → List ℕ → PermittedIssuers → List ℕ → Type 0
ListPut book names rounds p buffer answer after =
    (who : Applicant) (request : List ℕ) → Found who request book names rounds p →
    (answer ≡ (list_issuers request who book buffer).answer) × (after ≡ (list_issuers request who book buffer).buffer)
