-- Unpacking the answer of the call that lists the permitted issuers gives its number and values: each fits its field.
use Rattle.std.specs.Prelude.{Option, None, Some}
use Prim.Native.Nat.{ℕ, ◌^◌, ◌≤◌, ◌<◌}
use native.Mathlib.Omega.{arith}
use mathlib.Core.Path.{◌≡◌, refl}
use mathlib.Core.Bool.{Bool, true, false, cond}
use mathlib.Core.List.{List, [], ◌∷◌}
use lib.Dec.{leb}
use lib.ListN.{length}
use Rattle.spec_limits.specs.Limits.{max_book_octets}
use Rattle.spec_refusal.specs.declared.Refusal.{Refusal}
use Rattle.spec_refusal.specs.declared.Refusal.TheVariants.{NoRoom}
use Rattle.spec_refusal.specs.Refusal.{place}
use Rattle.spec_octets.specs.Octets.{Octets}
use Rattle.spec_request.specs.Request.{request_refusal}
use Rattle.spec_record.specs.Records.{book_refusal, records}
use Rattle.spec_record.proofs.Book.{book_is_its_records}
use Rattle.spec_packed.proofs.Unpacking.{number_small}
use Rattle.spec_applicant.specs.Applicant.{Applicant, applicant_refusal}
use Rattle.spec_rule.specs.declared.PermittedIssuers.{PermittedIssuers}
use Rattle.spec_rule.specs.declared.PermittedIssuers.TheVariants.{Anyone, Listed, Refused}
use Rattle.spec_rule.specs.IssuerLists.{Issuers, anyone, listed, issuers, entries}
use Rattle.spec_rule.specs.Calls.{refusal_code, authorizations, first_refusal, written, unless_refused, list_issuers, permitted_issuers_code}
use Rattle.spec_rule.specs.Theorems.{total}
use Rattle.spec_rule.proofs.BufferLaws.{entries_length}
use Rattle.spec_rule.proofs.Room.{room_of_the_book}
use Rattle.spec_answers.specs.ListAnswers.{packed_issuers}
use Rattle.spec_answers.specs.Theorems.{Unpacked, ListUnpacks}
use Rattle.spec_answers.proofs.JudgementUnpacks.{told_unpacks}
use Rattle.spec_answers.proofs.RefusalPlaces.{request_fits, applicant_fits, book_fits}

-- Each number fits its field: a list is no longer than the book.
abbrev ListFits : PermittedIssuers → Type 0
ListFits Anyone = Unit {0}
ListFits (Listed count octets) = (octets < 2 ^ 24) × (count < 2 ^ 16)
ListFits (Refused r) = place r < 2 ^ 24

count_less : (ns : List (List ℕ)) → length ns ≤ total ns
count_less [] = omega arith
count_less (n ∷ ns) = omega (arith, count_less ns)

module _ (request : List ℕ) (who : Applicant) (book buffer : List ℕ) (octets : Octets book) where
  list_small : book_refusal book ≡ None → (ns : List (List ℕ)) → issuers (authorizations request who book) ≡ listed ns →
      (length (entries ns) < 2 ^ 24) × (length ns < 2 ^ 16)
  unfolding max_book_octets
  list_small f ns g =
      let (whole, good, few, short, apart) = (book_is_its_records book octets (records book)).0 (f, refl) in (
        omega (arith, entries_length ns, room_of_the_book request who book octets f ns g),
        omega (arith, count_less ns, room_of_the_book request who book octets f ns g),
      )

  fits : (b c d : Option Refusal) → request_refusal request ≡ b → applicant_refusal who ≡ c → book_refusal book ≡ d → (i : Issuers) →
      issuers (authorizations request who book) ≡ i → ListFits (list_issuers request who book buffer).answer
  unfolding list_issuers place
  fits (Some r) c d e a f i g = rw e (rw e at (request_fits request))
  fits None (Some r) d e a f i g = rw (e, a) (rw a at (applicant_fits who))
  fits None None (Some r) e a f i g = rw (e, a, f) (rw f at (book_fits book))
  fits None None None e a f anyone g = rw (e, a, f, g) tt
  fits None None None e a f (listed ns) g = rw (e, a, f, g) (by (leb (length (entries ns)) (length buffer)) (list_small f ns g))
    where
      by : (t : Bool) → (length (entries ns) < 2 ^ 24) × (length ns < 2 ^ 16) →
          ListFits (unless_refused (first_refusal (None ∷ None ∷ None ∷ cond t None (Some (NoRoom (length (entries ns)))) ∷ [])) (written (listed ns) buffer) buffer).answer
      by true h = h
      by false h = h.0

fitting_unpacks : (x : PermittedIssuers) → ListFits x → Unpacked (packed_issuers x) (permitted_issuers_code x)
unfolding packed_issuers permitted_issuers_code
fitting_unpacks Anyone h = told_unpacks (permitted_issuers_code Anyone) (omega arith) (omega arith) (omega arith) (omega arith)
fitting_unpacks (Listed count octets) h = told_unpacks (permitted_issuers_code (Listed count octets)) (omega arith) h.0 h.1 (omega arith)
fitting_unpacks (Refused r) h = told_unpacks (refusal_code r) (number_small r) h (omega arith) (omega arith)

pub list_unpacks : ListUnpacks
list_unpacks request who book buffer octets =
    fitting_unpacks (list_issuers request who book buffer).answer
    (fits request who book buffer octets (request_refusal request) (applicant_refusal who) (book_refusal book) refl refl refl (issuers (authorizations request who book)) refl)
