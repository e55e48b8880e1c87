-- What an answer and a buffer that are the definition's say, by the theorems about the rule.
use Rattle.std.specs.Prelude.{Option, None, Some}
use Prim.Native.Nat.{ℕ}
use mathlib.Core.Path.{◌≡◌, refl}
use mathlib.Core.List.{List}
use Rattle.spec_refusal.specs.declared.Refusal.{Refusal}
use Rattle.spec_refusal.specs.declared.Refusal.TheVariants.{NoRoom}
use Rattle.spec_octets.specs.Octets.{Octets}
use Rattle.spec_request.specs.Request.{request_refusal}
use Rattle.spec_applicant.specs.Applicant.{Applicant, applicant_refusal}
use Rattle.spec_record.specs.Records.{book_refusal}
use Rattle.spec_rule.specs.declared.PermittedIssuers.TheVariants.{Refused}
use Rattle.spec_rule.specs.Calls.{list_issuers}
use Rattle.spec_rule.specs.Theorems.{ListRow, ListingTells}
use Rattle.spec_rule.proofs.RefusalLaws.{list_refusals}
use Rattle.spec_rule.proofs.CallLaws.{call_lists_the_permitted, book_length_is_room}
use Rattle.list_call.specs.Theorems.{ListingExactly}

module _ (request : List ℕ) (who : Applicant) (book buffer : List ℕ) (o : Octets request) (p : Octets book)
    (empty : (r : Refusal) → ListRow request who book buffer r → ⊥) where
  unrefused : (r : Refusal) → (list_issuers request who book buffer).answer ≡ Refused r → ⊥
  unrefused r e = empty r ((list_refusals request who book buffer o p r).0.0 e).0

  listed :
      (c d e : Option Refusal) → request_refusal request ≡ c → applicant_refusal who ≡ d → book_refusal book ≡ e →
      ListingTells request who book buffer (list_issuers request who book buffer)
  unfolding list_issuers
  listed None None None r a b = call_lists_the_permitted request who book buffer r a b (λ n. unrefused (NoRoom n))
  listed None None (Some q) r a b = absurd (unrefused q (rw (r, a, b)))
  listed None (Some q) e r a b = absurd (unrefused q (rw (r, a)))
  listed (Some q) d e r a b = absurd (unrefused q (rw r))

pub listing_exactly : ListingExactly
listing_exactly request who book buffer after o p answer e f = rw (e, f) (
  list_refusals request who book buffer o p,
  λ empty. listed request who book buffer o p empty (request_refusal request) (applicant_refusal who) (book_refusal book) refl refl refl,
  book_length_is_room request who book buffer p,
)
