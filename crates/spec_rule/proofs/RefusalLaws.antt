-- When each call refuses: the rows of each input, put together in the order of checks.
use Rattle.std.proofs.lemmas.Option.{none-some}
use Rattle.std.specs.Prelude.{Option, None, Some}
use Prim.Native.Nat.{ℕ, ◌<◌}
use native.Mathlib.Omega.{arith}
use mathlib.Core.Path.{◌≡◌, refl}
use mathlib.Core.Logic.Iff
use mathlib.Core.Logic.{◌↔◌, ◌≢◌}
use mathlib.Core.Bool.{Bool, true, false, cond}
use mathlib.Core.List.{List, [], ◌∷◌}
use lib.Dec.{leb}
use lib.ListN.{length}
use borrow.Author.Tests.{leb-true, leb-false}
use Rattle.spec_refusal.specs.declared.Refusal.{Refusal}
use Rattle.spec_refusal.specs.declared.Refusal.TheVariants.{NoRoom}
use Rattle.spec_refusal.specs.Refusal.{number}
use Rattle.spec_octets.specs.Octets.{Octets}
use Rattle.spec_request.specs.Request.{requested_names, request_refusal}
use Rattle.spec_request.specs.Theorems.{RequestRow}
use Rattle.spec_request.proofs.Requests.{request_refusals, request_faults}
use Rattle.spec_issuer.specs.Issuer.{issuer_refusal}
use Rattle.spec_issuer.specs.Theorems.{IssuerRow}
use Rattle.spec_issuer.proofs.Dotted.{issuer_refusals}
use Rattle.spec_record.specs.Records.{records, book_refusal}
use Rattle.spec_record.specs.Theorems.{BookRow}
use Rattle.spec_record.proofs.Book.{book_refusals, book_faults}
use Rattle.spec_applicant.specs.Applicant.{Applicant, applicant_refusal}
use Rattle.spec_applicant.specs.Theorems.{ApplicantRow}
use Rattle.spec_applicant.proofs.Texts.{applicant_refusals}
use Rattle.spec_rule.specs.declared.Judgement.{Judgement}
use Rattle.spec_rule.specs.declared.Judgement.TheVariants.{Refused}
use Rattle.spec_rule.specs.declared.PermittedIssuers.TheVariants.{Refused as ListRefused}
use Rattle.spec_rule.specs.RelevantSet.{as_book}
use Rattle.spec_rule.specs.IssuerLists.{Issuers, anyone, listed, issuers, entries}
use Rattle.spec_rule.specs.Calls.{authorizations, decisions, first_refusal, judge_checks, refused_or, judge, room_refusal, list_checks, written, unless_refused, list_issuers}
use Rattle.spec_rule.specs.Theorems.{JudgeRow, ListRow, JudgeRefusals, ListRefusals}
use Rattle.spec_rule.proofs.VerdictLaws.{verdict_by_the_rule}
use Rattle.spec_rule.proofs.CheckOrder.{checked_at, Keeps, first_row, in_front, one_row, placed_row, three_rows, four_rows}

-- each input keeps to its rows
pub request_keeps : (s : List ℕ) → Octets s → Keeps (request_refusal s ∷ []) (RequestRow s) (1 ∷ 2 ∷ 3 ∷ [])
unfolding number checked_at
request_keeps s o = let law = request_refusals s o in three_rows law.0 law.1 law.2 (request_faults s) refl (λ k. refl) refl refl

pub issuer_keeps : (d : List ℕ) → Keeps (issuer_refusal d ∷ []) (IssuerRow d) (4 ∷ [])
unfolding number
issuer_keeps d = let law = issuer_refusals d in one_row law.0 law.2 refl

pub applicant_keeps : (who : Applicant) → Keeps (applicant_refusal who ∷ []) (ApplicantRow who) (15 ∷ [])
unfolding number
applicant_keeps who = let law = applicant_refusals who in one_row law.0 law.2 refl

pub book_keeps : (b : List ℕ) → Octets b → Keeps (book_refusal b ∷ []) (BookRow b) (5 ∷ 6 ∷ 7 ∷ 12 ∷ [])
unfolding number checked_at
book_keeps b o = let law = book_refusals b o in four_rows law.0 law.1 law.2 law.3 (book_faults b) refl (λ k. refl) refl (λ k. refl) refl

-- a judgement is refused by a check, as no verdict is a refusal
judge_refused : (c : Option Refusal) (j : Judgement) (r : Refusal) → j ≢ Refused r → (refused_or c j ≡ Refused r) ↔ (c ≡ Some r)
judge_refused None j r n = (λ e. absurd (n e), λ e. absurd (none-some r e))
judge_refused (Some q) j r n = (λ e. cc, λ e. cc)

-- the numbers of the rows of each call
abbrev pub judge_numbers : List ℕ
judge_numbers = 1 ∷ 2 ∷ 3 ∷ 4 ∷ 15 ∷ 5 ∷ 6 ∷ 7 ∷ 12 ∷ []

abbrev pub list_numbers : List ℕ
list_numbers = 1 ∷ 2 ∷ 3 ∷ 15 ∷ 5 ∷ 6 ∷ 7 ∷ 12 ∷ 8 ∷ []

pub judge_keeps :
    (request issuer : List ℕ) (who : Applicant) (book : List ℕ) → Octets request → Octets book →
    Keeps (judge_checks request issuer who book) (JudgeRow request issuer who book) judge_numbers
unfolding checked_at
judge_keeps request issuer who book o p =
    in_front (request_keeps request o) (in_front (issuer_keeps issuer) (in_front (applicant_keeps who) (book_keeps book p) refl) refl) refl

pub judge_refusals : JudgeRefusals
unfolding judge decisions
judge_refusals request issuer who book o p r =
    Iff.trans
    (judge_refused _ _ r ((verdict_by_the_rule who (as_book (records book)) (requested_names request) issuer).4 r))
    (first_row (judge_keeps request issuer who book o p) r)

-- row 8, whoever is to be written
abbrev TooSmall : Issuers → List ℕ → ℕ → Type 0
TooSmall out buffer n = (ns : List (List ℕ)) × (out ≡ listed ns) × (length (entries ns) ≡ n) × (length buffer < n)

abbrev NoRooms : Issuers → List ℕ → Option Refusal → Type 0
NoRooms out buffer c = ((n : ℕ) → (c ≡ Some (NoRoom n)) ↔ TooSmall out buffer n) × ((r : Refusal) → c ≡ Some r → (n : ℕ) × (r ≡ NoRoom n))

room_refusals : (out : Issuers) (buffer : List ℕ) → NoRooms out buffer (room_refusal out buffer)
room_refusals anyone buffer = (λ n. (λ e. absurd (none-some _ e), λ (ns, e, l, h). cc), λ r e. absurd (none-some r e))
room_refusals (listed ns) buffer = go (leb (length (entries ns)) (length buffer)) refl
  where
    go :
        (t : Bool) → leb (length (entries ns)) (length buffer) ≡ t →
        NoRooms (listed ns) buffer (cond t None (Some (NoRoom (length (entries ns)))))
    go true e = (
      λ n. (
        λ f. absurd (none-some _ f),
        λ (ms, s, l, h). let k : length (entries ns) ≡ n = cc in absurd (omega (arith, leb-true)),
      ),
      λ r f. absurd (none-some r f),
    )
    go false e = (
      λ n. (λ f. let k : length (entries ns) ≡ n = cc in (ns, refl, k, omega (arith, leb-false)), λ (ms, s, l, h). cc),
      λ r f. (length (entries ns), cc),
    )

room_keeps :
    (out : Issuers) (buffer : List ℕ) → Keeps (room_refusal out buffer ∷ []) (λ r. (n : ℕ) × (r ≡ NoRoom n) × TooSmall out buffer n) (8 ∷ [])
unfolding number
room_keeps out buffer = let law = room_refusals out buffer in placed_row law.0 law.1 (λ n. refl)

pub list_keeps :
    (request : List ℕ) (who : Applicant) (book buffer : List ℕ) → Octets request → Octets book →
    Keeps (list_checks request who book buffer) (ListRow request who book buffer) list_numbers
unfolding checked_at
list_keeps request who book buffer o p =
    let room = room_keeps (issuers (authorizations request who book)) buffer in
    in_front (request_keeps request o) (in_front (applicant_keeps who) (in_front (book_keeps book p) room refl) refl) refl

-- a listing is refused by a check, and leaves the buffer as it was
list_refused :
    (c : Option Refusal) (out : Issuers) (buffer : List ℕ) (r : Refusal) → let l = unless_refused c (written out buffer) buffer in
    ((l.answer ≡ ListRefused r) ↔ (c ≡ Some r)) × (l.answer ≡ ListRefused r → l.buffer ≡ buffer)
list_refused None anyone buffer r = ((λ e. cc, λ e. cc), λ e. refl)
list_refused None (listed ns) buffer r = ((λ e. cc, λ e. cc), λ e. cc)
list_refused (Some q) out buffer r = ((λ e. cc, λ e. cc), λ e. refl)

pub list_refusals : ListRefusals
unfolding list_issuers
list_refusals request who book buffer o p r =
    let refused = list_refused (first_refusal (list_checks request who book buffer)) (issuers (authorizations request who book)) buffer r in
    (Iff.trans refused.0 (first_row (list_keeps request who book buffer o p) r), refused.1)
