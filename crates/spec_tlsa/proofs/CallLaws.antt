-- When each call refuses, and what it answers otherwise.
use Rattle.std.proofs.lemmas.Option.{none-some, same_Some}
use Rattle.std.specs.Prelude.{Option, None, Some, Ok, Err}
use Prim.Native.Nat.{ℕ, ◌<◌}
use native.Mathlib.Omega.{arith}
use mathlib.Core.Path.{◌≡◌, refl, sym, ap, ◌∙◌}
use mathlib.Core.Logic.Iff
use mathlib.Core.Logic.{◌↔◌, ◌≢◌}
use mathlib.Core.Bool.{Bool, true, false, cond, true≢false}
use mathlib.Core.List.{List, [], ◌∷◌, ◌++◌}
use lib.Dec.{leb}
use lib.ListN.{length, drop}
use borrow.Author.Tests.{leb-true, leb-false, le-leb}
use Rattle.spec_refusal.specs.declared.Refusal.{Refusal}
use Rattle.spec_refusal.specs.declared.Refusal.TheVariants.{NoRoom}
use Rattle.spec_refusal.specs.Refusal.{number, place}
use Rattle.spec_octets.specs.Octets.{Octets}
use Rattle.spec_octets.specs.Lists.{any, select}
use Rattle.spec_name.specs.Names.{Name, wire}
use Rattle.spec_record.specs.Records.{records}
use Rattle.spec_rule.specs.Calls.{first_refusal}
use Rattle.spec_rule.proofs.CheckOrder.{checked_at, Keeps, first_row, in_front, one_row}
use Rattle.spec_rule.proofs.RefusalLaws.{book_keeps}
use Rattle.spec_line.specs.Calls.{Output, refused, placed}
use Rattle.spec_tlsa.specs.declared.Matching.{Matching}
use Rattle.spec_tlsa.specs.declared.Matching.TheVariants.{Refused}
use Rattle.spec_tlsa.specs.Owners.{Service, service_owner}
use Rattle.spec_tlsa.specs.Matches.{tlsa_records, is_usable, is_match, matching}
use Rattle.spec_tlsa.specs.Calls.{bad_service, owner_placed, write_owner, owner_check, owner_refusal, match_checks, tlsa_of, refused_or, match_service, matching_code}
use Rattle.spec_tlsa.specs.Meaning.{OwnerOf, MatchRow}
use Rattle.spec_tlsa.specs.Pinned.{MatchCodes}
use Rattle.spec_tlsa.specs.Theorems.{OwnerRefusals, OwnerPlaced, MatchAccepted, MatchRefusals}
use Rattle.spec_tlsa.proofs.OwnerLaws.{owner_is_its_parts}
use Rattle.spec_tlsa.proofs.MatchLaws.{never_refused, match_by_the_rule}

pub match_codes : MatchCodes
unfolding matching_code number place
match_codes = (λ k. refl, refl, refl, λ r. refl, refl)

-- Writing the owner.

pub owner_placed_lem : OwnerPlaced
unfolding write_owner placed
owner_placed_lem s buffer x o owner room = rw ((owner_is_its_parts s o x).1 owner, le-leb (length (wire x)) (length buffer) room)

not_room : {n : ℕ} → bad_service ≢ NoRoom n
unfolding number
not_room e = let z : ◌≡◌ {A = ℕ} 2 8 = ap number e in absurd (omega arith)

pub owner_refusals : OwnerRefusals
unfolding write_owner placed
owner_refusals s buffer o = go (service_owner s) refl
  where
    Rows : Output → Type 0
    Rows out =
        ((out.answer ≡ Err bad_service) ↔ ((x : Name) → OwnerOf s x → ⊥))
        × ((n : ℕ) → (out.answer ≡ Err (NoRoom n)) ↔ ((x : Name) × OwnerOf s x × (length (wire x) ≡ n) × (length buffer < n)))
        × ((r : Refusal) → out.answer ≡ Err r → out.buffer ≡ buffer)

    law : (x : Name) → (service_owner s ≡ Some x) ↔ OwnerOf s x
    law = owner_is_its_parts s o

    only : (x y : Name) → service_owner s ≡ Some x → OwnerOf s y → x ≡ y
    only x y e owner = same_Some x y (sym e ∙ (law y).1 owner)

    long_enough : (x : Name) → service_owner s ≡ Some x → (t : Bool) → leb (length (wire x)) (length buffer) ≡ t →
        Rows (cond t (record { answer = Ok (length (wire x)); buffer = wire x ++ drop (length (wire x)) buffer }) (refused (NoRoom (length (wire x))) buffer))
    long_enough x e true t = (
      (λ h. absurd (true≢false (cc)), λ h. absurd (h x ((law x).0 e))),
      λ n. (
        λ h. absurd (true≢false (cc)),
        λ (y, owner, is, less). let same = ap (λ z. length (wire z)) (only x y e owner) in absurd (omega (arith, leb-true (length (wire x)) (length buffer) t)),
      ),
      λ r h. absurd (true≢false (cc)),
    )
    long_enough x e false t = (
      (λ h. absurd (not_room {n = length (wire x)} (cc)), λ h. absurd (h x ((law x).0 e))),
      λ n. (
        λ h. let is : length (wire x) ≡ n = cc in (x, (law x).0 e, is, rw is at (leb-false (length (wire x)) (length buffer) t)),
        λ (y, owner, is, less). rw (only x y e owner, is),
      ),
      λ r h. refl,
    )

    go : (owner : Option Name) → service_owner s ≡ owner → Rows (owner_placed owner buffer)
    go None e = (
      (λ h x owner. none-some x (sym e ∙ (law x).1 owner), λ h. refl),
      λ n. (λ h. absurd (not_room {n = n} (cc)), λ (x, owner, is, less). absurd (none-some x (sym e ∙ (law x).1 owner))),
      λ r h. refl,
    )
    go (Some x) e = long_enough x e (leb (length (wire x)) (length buffer)) refl

-- The match.

owner_keeps : (s : Service) → Octets s.host → Keeps (owner_refusal s ∷ []) (λ r. (r ≡ bad_service) × ((x : Name) → OwnerOf s x → ⊥)) (2 ∷ [])
unfolding owner_refusal number
owner_keeps s o = one_row (row (service_owner s) refl) (only (service_owner s)) refl
  where
    row : (owner : Option Name) → service_owner s ≡ owner → (owner_check owner ≡ Some bad_service) ↔ ((x : Name) → OwnerOf s x → ⊥)
    row None e = (λ h x owner. none-some x (sym e ∙ (owner_is_its_parts s o x).1 owner), λ h. refl)
    row (Some x) e = (λ h. absurd (none-some _ h), λ h. absurd (h x ((owner_is_its_parts s o x).0 e)))

    only : (owner : Option Name) (r : Refusal) → owner_check owner ≡ Some r → r ≡ bad_service
    only None r h = sym (same_Some _ _ h)
    only (Some x) r h = absurd (none-some r h)

match_keeps :
    (s : Service) (book : List ℕ) → Octets s.host → Octets book → Keeps (match_checks s book) (MatchRow s book) (2 ∷ 5 ∷ 6 ∷ 7 ∷ 12 ∷ [])
unfolding checked_at
match_keeps s book o p = in_front (owner_keeps s o) (book_keeps book p) refl

match_refused : (c : Option Refusal) (m : Matching) (r : Refusal) → m ≢ Refused r → (refused_or c m ≡ Refused r) ↔ (c ≡ Some r)
match_refused None m r n = (λ e. absurd (n e), λ e. absurd (none-some r e))
match_refused (Some q) m r n = (λ e. cc, λ e. cc)

pub match_refusals : MatchRefusals
unfolding match_service matching
match_refusals s c book o p r =
    let rs = tlsa_of (service_owner s) (tlsa_records (records book)) in
    Iff.trans
    (match_refused (first_refusal (match_checks s book)) (matching c rs) r
    (never_refused (select (λ q. is_match c q.association) rs) (any (λ q. is_usable q.association) rs) r))
    (first_row (match_keeps s book o p) r)

pub match_accepted : MatchAccepted
unfolding match_service owner_refusal
match_accepted s c book x o owner accepted = rw ((owner_is_its_parts s o x).1 owner, accepted) (match_by_the_rule c x (tlsa_records (records book)))
