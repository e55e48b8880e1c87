-- The place of each refusal of a request, an issuer domain name, an applicant and a book fits its field, for any octets.
use Rattle.std.specs.Prelude.{Option, None, Some}
use Prim.Native.Nat.{ℕ, suc, ◌+◌, ◌^◌, ◌≤◌, ◌<◌}
use native.Mathlib.Omega.{arith}
use mathlib.Core.Path.{◌≡◌, refl}
use mathlib.Core.Bool.{Bool, true, false, cond}
use mathlib.Core.List.{List, [], ◌∷◌}
use lib.Dec.{ltb}
use lib.ListN.{length}
use Rattle.spec_limits.specs.Limits.{max_request_octets, max_names, max_book_octets, max_records}
use Rattle.spec_refusal.specs.declared.Refusal.{Refusal}
use Rattle.spec_refusal.specs.declared.Refusal.TheVariants.{RequestTooLong, BadName, TooManyNames, BadIssuer, BookTooLong, BadRecord, TooManyRecords, BadAccountOrMethod}
use Rattle.spec_refusal.specs.Refusal.{place}
use Rattle.spec_octets.specs.Lists.{is_empty}
use Rattle.spec_octets.specs.Items.{Items, whole, broken, over, item_fault}
use Rattle.spec_request.specs.Request.{requested_name, name_items, request_refusal}
use Rattle.spec_issuer.specs.Issuer.{is_issuer, issuer_refusal}
use Rattle.spec_applicant.specs.Applicant.{Applicant, is_applicant, applicant_refusal}
use Rattle.spec_record.specs.Records.{Record, resource_record, record_items, records, layout_refusal, clashes, clash_from, conflict_at, conflict_refusal, or_refusal, book_refusal}
use Rattle.spec_octets.proofs.ItemRoom.{Within, items_within, whole_within}

abbrev pub PlaceFits : Option Refusal → Type 0
PlaceFits None = Unit {0}
PlaceFits (Some r) = place r < 2 ^ 24

fault_fits :
    {A : Type 0} (bad : ℕ → Refusal) (many : Refusal) (limit : ℕ) → ((k : ℕ) → place (bad k) ≡ k) → place many ≡ limit → limit < 2 ^ 24 →
    (i : Items A) → Within limit i → PlaceFits (item_fault bad many i)
fault_fits bad many limit at last l (whole xs) h = tt
fault_fits bad many limit at last l (broken k) h = omega (arith, at k)
fault_fits bad many limit at last l over h = omega arith

pub cond_fits : (t : Bool) (a b : Option Refusal) → PlaceFits a → PlaceFits b → PlaceFits (cond t a b)
cond_fits true a b h k = h
cond_fits false a b h k = k

limits_fit : (max_names < 2 ^ 24) × (max_records < 2 ^ 24)
unfolding max_names max_records
limits_fit = (omega arith, omega arith)

pub request_fits : (s : List ℕ) → PlaceFits (request_refusal s)
unfolding request_refusal name_items place
request_fits s =
    cond_fits (ltb max_request_octets (length s)) (Some RequestTooLong) _ (omega arith)
    (cond_fits (is_empty s) (Some (BadName (record { 0 = 0 }))) _ (omega arith)
    (fault_fits (λ k. BadName (record { 0 = k })) TooManyNames max_names (λ k. refl) refl limits_fit.0 (name_items s) (items_within requested_name max_names s)))

pub issuer_fits : (d : List ℕ) → PlaceFits (issuer_refusal d)
unfolding issuer_refusal place
issuer_fits d = cond_fits (is_issuer d) None (Some BadIssuer) tt (omega arith)

pub applicant_fits : (who : Applicant) → PlaceFits (applicant_refusal who)
unfolding applicant_refusal place
applicant_fits who = cond_fits (is_applicant who) None (Some BadAccountOrMethod) tt (omega arith)

layout_fits : (b : List ℕ) → PlaceFits (layout_refusal b)
unfolding layout_refusal record_items place
layout_fits b =
    cond_fits (ltb max_book_octets (length b)) (Some BookTooLong) _ (omega arith)
    (fault_fits (λ k. BadRecord (record { 0 = k })) TooManyRecords max_records (λ k. refl) refl limits_fit.1 (record_items b) (items_within resource_record max_records b))

-- a record that clashes is one of the records
conflict_fits : (k m : ℕ) (before rs : List Record) → k + length rs ≤ m → m < 2 ^ 24 → PlaceFits (conflict_at (clash_from k before rs))
unfolding place
conflict_fits k m before [] h l = tt
conflict_fits k m before (r ∷ rs) h l = go (clashes r before) (conflict_fits (suc k) m (r ∷ before) rs (omega arith) l)
  where
    go :
        (t : Bool) → PlaceFits (conflict_at (clash_from (suc k) (r ∷ before) rs)) →
        PlaceFits (conflict_at (cond t (Some k) (clash_from (suc k) (r ∷ before) rs)))
    go true rest = omega arith
    go false rest = rest

or_fits : (a b : Option Refusal) → PlaceFits a → PlaceFits b → PlaceFits (or_refusal a b)
or_fits None b h k = k
or_fits (Some r) b h k = h

pub book_fits : (b : List ℕ) → PlaceFits (book_refusal b)
unfolding book_refusal conflict_refusal records record_items
book_fits b =
    let few = whole_within max_records (record_items b) (items_within resource_record max_records b) in
    or_fits (layout_refusal b) (conflict_refusal (records b)) (layout_fits b)
    (conflict_fits 0 max_records [] (records b) (omega arith) limits_fit.1)
