-- What the contract of `permitted_issuers` means for a caller. Each statement is proved under its name in proofs/, from theorems about the rule.
use Rattle.std.specs.Prelude.{ℕ, ◌≤◌, ◌≡◌, ◌↔◌, ◌≢◌, List, length, None}
use Rattle.spec_refusal.specs.declared.Refusal.{Refusal}
use Rattle.spec_octets.specs.Octets.{Octets}
use Rattle.spec_request.specs.Request.{request_refusal}
use Rattle.spec_applicant.specs.Applicant.{Applicant, applicant_refusal}
use Rattle.spec_record.specs.Records.{book_refusal}
use Rattle.spec_rule.specs.declared.PermittedIssuers.{PermittedIssuers}
use Rattle.spec_rule.specs.declared.PermittedIssuers.TheVariants.{Refused}
use Rattle.spec_rule.specs.Calls.{list_issuers}
use Rattle.spec_rule.specs.Theorems.{FirstRow, ListRow, ListingTells}

-- Take any answer and any buffer afterwards that equal the definition, as the contract promises. The answer is a refusal exactly when the table of
-- refusals says so, and then the buffer is unchanged. If no row of the table applies, answer and buffer give the permitted issuers
-- (`ListingTells`). If request, applicant and book are accepted and the buffer is as long as the book, nothing is refused.
abbrev pub ListingExactly : Type 0
ListingExactly =
    (request : List ℕ) (who : Applicant) (book buffer after : List ℕ) → Octets request → Octets book → (answer : PermittedIssuers) →
    answer ≡ (list_issuers request who book buffer).answer → after ≡ (list_issuers request who book buffer).buffer →
    ((r : Refusal) → ((answer ≡ Refused r) ↔ FirstRow (ListRow request who book buffer) r) × (answer ≡ Refused r → after ≡ buffer))
    × (((r : Refusal) → ListRow request who book buffer r → ⊥) → ListingTells request who book buffer (record { answer = answer; buffer = after }))
    × (request_refusal request ≡ None → applicant_refusal who ≡ None → book_refusal book ≡ None → length book ≤ length buffer → (r : Refusal) → answer ≢ Refused r)
