-- The answer to an accepted request and book: the list in every buffer that is long enough, and how long that is.
use Rattle.std.specs.Prelude.{None}
use Prim.Native.Nat.{ℕ, ◌≤◌, ◌<◌}
use native.Mathlib.Omega.{arith}
use mathlib.Core.Path.{◌≡◌, refl, sym, ap, ◌∙◌}
use mathlib.Core.Logic.{◌≢◌, ◌⊎◌, inl, inr, ⊎_elim, ⊎_map}
use mathlib.Core.List.{List, [], ◌∷◌}
use lib.Dec.{leb}
use lib.ListN.{length}
use borrow.Author.Tests.{leb-true, leb-false, le-leb, lt-leb}
use Rattle.spec_refusal.specs.declared.Refusal.{Refusal}
use Rattle.spec_refusal.specs.declared.Refusal.TheVariants.{NoRoom}
use Rattle.spec_octets.proofs.ListLaws.{true_or_false}
use Rattle.spec_request.specs.Request.{request_refusal}
use Rattle.spec_record.specs.Records.{book_refusal}
use Rattle.spec_applicant.specs.Applicant.{Applicant, applicant_refusal}
use Rattle.spec_rule.specs.declared.PermittedIssuers.TheVariants.{Anyone, Listed, Refused as ListRefused}
use Rattle.spec_rule.specs.Authorizations.{Authorization}
use Rattle.spec_rule.specs.IssuerLists.{Issuers, anyone, listed, issuers, entries}
use Rattle.spec_rule.specs.Calls.{authorizations, Listing, first_refusal, room_refusal, written, unless_refused, list_issuers}
use Rattle.spec_rule.specs.Theorems.{CallListsThePermitted, BookLengthIsRoom, RoomNeeded}
use Rattle.spec_rule.proofs.PermittedLaws.{permitted_issuers_exactly}
use Rattle.spec_rule.proofs.BufferLaws.{entries_length}
use Rattle.spec_rule.proofs.Room.{room_of_the_book}
use Rattle.spec_rule.proofs.ReadBackLaws.{anyone≢listed, anyone≢refused, listed≢refused, one_count, one_length, HasRoom, written_tells}

-- what is answered once the request, the applicant and the book are accepted
abbrev answered : List ℕ → Issuers → Listing
answered buffer i = unless_refused (first_refusal (room_refusal i buffer ∷ [])) (written i buffer) buffer

accepted :
    (request : List ℕ) (who : Applicant) (book buffer : List ℕ) →
    request_refusal request ≡ None → applicant_refusal who ≡ None → book_refusal book ≡ None →
    list_issuers request who book buffer ≡ answered buffer (issuers (authorizations request who book))
unfolding list_issuers
accepted request who book buffer r a b = rw (r, a, b) refl

module _ (buffer : List ℕ) where
  room : (i : Issuers) → HasRoom i buffer → answered buffer i ≡ written i buffer
  room anyone h = refl
  room (listed ns) h = rw (le-leb (length (entries ns)) (length buffer) h) refl

  no_room :
      (ns : List (List ℕ)) → length buffer < length (entries ns) →
      answered buffer (listed ns) ≡ record { answer = ListRefused (NoRoom (length (entries ns))); buffer = buffer }
  no_room ns h = rw (lt-leb (length (entries ns)) (length buffer) h) refl

  has_room : (i : Issuers) → ((n : ℕ) → (answered buffer i).answer ≢ ListRefused (NoRoom n)) → HasRoom i buffer
  has_room anyone h = tt
  has_room (listed ns) h = ⊎_elim
      (λ e. leb-true _ _ e)
      (λ e. absurd (h (length (entries ns)) (ap (λ (l : Listing). l.answer) (no_room ns (leb-false _ _ e)))))
      (true_or_false (leb (length (entries ns)) (length buffer)))

pub call_lists_the_permitted : CallListsThePermitted
call_lists_the_permitted request who book buffer r a b h =
    let i = issuers (authorizations request who book) in
    let e = accepted request who book buffer r a b in
    let fits = has_room buffer i (rw e at h) in
    rw (e, room buffer i fits) (written_tells request who book buffer i (permitted_issuers_exactly request who book r a b) fits)

pub book_length_is_room : BookLengthIsRoom
book_length_is_room request who book buffer o r a b long q e = refused (issuers says) refl (rw (accepted request who book buffer r a b) at e)
  where
    says : List Authorization
    says = authorizations request who book

    refused : (i : Issuers) → issuers says ≡ i → (answered buffer i).answer ≡ ListRefused q → ⊥
    refused anyone k h = anyone≢refused h
    refused (listed ns) k h =
        let fits : length (entries ns) ≤ length buffer = omega (arith, entries_length ns, room_of_the_book request who book o b ns k) in
        listed≢refused (rw (room buffer (listed ns) fits) at h)

-- a list is told with its count and octets, or there is no room for it
answered_list :
    (buffer : List ℕ) (ns : List (List ℕ)) →
    ((answered buffer (listed ns)).answer ≡ Listed (length ns) (length (entries ns)))
    ⊎ ((r : Refusal) × ((answered buffer (listed ns)).answer ≡ ListRefused r))
answered_list buffer ns = ⊎_map
    (λ e. ap (λ (l : Listing). l.answer) (room buffer (listed ns) (leb-true _ _ e)))
    (λ e. (NoRoom (length (entries ns)), ap (λ (l : Listing). l.answer) (no_room buffer ns (leb-false _ _ e))))
    (true_or_false (leb (length (entries ns)) (length buffer)))

module _ (buffer other : List ℕ) where
  abbrev Needed : Issuers → Type 0
  Needed i =
      ((answered other i).answer ≡ Anyone → (answered buffer i).answer ≡ Anyone)
      × ((count octets : ℕ) → (answered other i).answer ≡ Listed count octets →
      (octets ≤ length buffer → (answered buffer i).answer ≡ Listed count octets)
      × (length buffer < octets → answered buffer i ≡ record { answer = ListRefused (NoRoom octets); buffer = buffer }))

  needed : (i : Issuers) → Needed i
  needed anyone = (λ e. refl, λ count octets e. absurd (anyone≢listed e))
  needed (listed ns) = by (answered_list other ns)
    where
      by :
          ((answered other (listed ns)).answer ≡ Listed (length ns) (length (entries ns)))
          ⊎ ((r : Refusal) × ((answered other (listed ns)).answer ≡ ListRefused r)) → Needed (listed ns)
      by (inr (r, k)) = (λ e. absurd (anyone≢refused (sym e ∙ k)), λ count octets e. absurd (listed≢refused (sym e ∙ k)))
      by (inl k) = (
        λ e. absurd (anyone≢listed (sym e ∙ k)),
        λ count octets e. rw (← one_count (sym k ∙ e), ← one_length (sym k ∙ e)) (
          λ fits. ap (λ (l : Listing). l.answer) (room buffer (listed ns) fits),
          λ short. no_room buffer ns short,
        ),
      )

pub room_needed : RoomNeeded
room_needed request who book buffer other r a b =
    rw (accepted request who book buffer r a b, accepted request who book other r a b) (needed buffer other (issuers (authorizations request who book)))
