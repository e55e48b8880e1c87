-- The numbers in a judgement fit their fields: name numbers, record numbers and labels taken off are below their limits, and so is a refusal's place.
use Rattle.std.specs.Prelude.{Option, None, Some}
use Prim.Native.Nat.{ℕ, zero, suc, ◌^◌, ◌≤◌, ◌<◌}
use native.Mathlib.Omega.{arith}
use mathlib.Core.Path.{◌≡◌, refl}
use mathlib.Core.Bool.{true≢false}
use mathlib.Core.List.{List, [], ◌∷◌, ◌++◌, map}
use lib.ListN.{length, drop, length-append}
use Rattle.spec_limits.specs.Limits.{max_names, max_records}
use Rattle.spec_refusal.specs.declared.Refusal.{Refusal}
use Rattle.spec_refusal.specs.Refusal.{place}
use Rattle.spec_octets.specs.Lists.{All, all_nil, all_cons, First}
use Rattle.spec_octets.proofs.ListLaws.{All-head, All-rest}
use Rattle.spec_octets.proofs.SelectedLists.{selects_all}
use Rattle.spec_octets.specs.Items.{Items, whole, broken, over, follow, before, whole_items, items}
use Rattle.spec_octets.proofs.ReaderLaws.{bind_some, given_some}
use Rattle.spec_name.specs.Names.{Name, wire, name, GoodName}
use Rattle.spec_name.proofs.NameLaws.{name_is_its_labels}
use Rattle.spec_request.specs.Request.{base, is_requestable, requested_name, name_items, requested_names}
use Rattle.spec_record.specs.Records.{records}
use Rattle.spec_applicant.specs.Applicant.{Applicant}
use Rattle.spec_rule.specs.declared.Judgement.{Judgement}
use Rattle.spec_rule.specs.declared.Judgement.TheVariants.{Permitted, UnknownCritical, NotGranted, TooManyAliases, Refused}
use Rattle.spec_rule.specs.RelevantSet.{CaaRecord, Book, empty, found, endless, as_book, relevant_set}
use Rattle.spec_rule.specs.Verdicts.{decision, verdict}
use Rattle.spec_rule.specs.Calls.{decisions, first_refusal, judge_checks, refused_or, judge}
use Rattle.spec_rule.specs.Meaning.{DecidedAt, LowestNot}
use Rattle.spec_rule.proofs.Lookups.{a_lookup}
use Rattle.spec_rule.proofs.Nearest.{nearest_name_decides}
use Rattle.spec_rule.proofs.LabelsTakenOff.{up_below_labels}
use Rattle.spec_rule.proofs.VerdictLaws.{verdict_by_the_rule}
use Rattle.spec_rule.proofs.RecordNumbers.{Numbered, book_numbered}
use Rattle.spec_octets.proofs.ItemRoom.{items_within, whole_within}
use Rattle.spec_answers.proofs.RefusalPlaces.{PlaceFits, request_fits, issuer_fits, applicant_fits, book_fits}

abbrev pub Fits : Judgement → Type 0
Fits Permitted = Unit {0}
Fits (UnknownCritical d) = (d.name.0 < max_names) × (d.rr.0 < max_records) × (d.up.0 < 127)
Fits (NotGranted d) = (d.name.0 < max_names) × (d.rr.0 < max_records) × (d.up.0 < 127)
Fits (TooManyAliases d) = (d.name.0 < max_names) × (d.rr.0 < max_records) × (d.up.0 < 127)
Fits (Refused r) = place r < 2 ^ 24

refused_fits : (checks : List (Option Refusal)) (j : Judgement) → All PlaceFits checks → Fits j → Fits (refused_or (first_refusal checks) j)
refused_fits [] j hs k = k
refused_fits (None ∷ checks) j (all_cons h hs) k = refused_fits checks j hs k
refused_fits (Some r ∷ checks) j (all_cons h hs) k = h

-- The verdict: a record's number is one of the book's, a name's one of the request's.
names_few : (s : List ℕ) → length (requested_names s) ≤ max_names
unfolding requested_names name_items
names_few s = whole_within max_names (name_items s) (items_within requested_name max_names s)

-- each name of a request was read, so it is valid
pub name_read : (s : List ℕ) (n : Name) (rest : List ℕ) → requested_name s ≡ Some (n, rest) → (s ≡ wire n ++ rest) × GoodName n
unfolding requested_name
name_read s n rest e =
    let (m, mid, f, g) = (bind_some name _ s n rest).0 e in
    let (passed, same, end) = (given_some (is_requestable m) m n mid rest).0 g in
    rw (same, end) at ((name_is_its_labels s m mid).0 f)

follow_good : (n : Name) (i : Items Name) → GoodName n → All GoodName (whole_items i) → All GoodName (whole_items (follow n i))
follow_good n (whole ns) g h = all_cons g h
follow_good n (broken k) g h = all_nil
follow_good n over g h = all_nil

items_good : (room : ℕ) (s : List ℕ) → All GoodName (whole_items (items requested_name room s))
items_good zero [] = all_nil
items_good zero (x ∷ s) = all_nil
items_good (suc room) [] = all_nil
items_good (suc room) (x ∷ s) = go (requested_name (x ∷ s)) refl (items_good room)
  where
    go :
        (o : Option (Name × List ℕ)) → requested_name (x ∷ s) ≡ o → ((t : List ℕ) → All GoodName (whole_items (items requested_name room t))) →
        All GoodName (whole_items (before o (items requested_name room)))
    go None e ih = all_nil
    go (Some r) e ih = follow_good r.0 (items requested_name room r.1) (name_read (x ∷ s) r.0 r.1 e).1 (ih r.1)

names_good : (s : List ℕ) → All GoodName (requested_names s)
unfolding requested_names name_items
names_good s = items_good max_names s

first_numbered :
    {P : CaaRecord → Type 0} (m : ℕ) (book : Book) → Numbered m book → (x : Name) (rs : List CaaRecord) (c : CaaRecord) →
    relevant_set book x ≡ found rs → First P rs c → c.number < m
first_numbered m book h x rs c e (before, after, f, p, ns) =
    let (k, near) = ((nearest_name_decides book x).0 (found rs) (λ (g : found rs ≡ empty). true≢false (cc))).0 e in
    let (y, ends, selects, some-set) = ((a_lookup book (drop k x)).1 rs).0 near.1 in
    All-head (All-rest before (c ∷ after) (rw f at (selects_all selects h.0)))

first_alias_numbered : (m : ℕ) (book : Book) → Numbered m book → (x : Name) (r : ℕ) → relevant_set book x ≡ endless r → r < m
first_alias_numbered m book h x r e =
    let (k, near) = ((nearest_name_decides book x).0 (endless r) (λ (g : endless r ≡ empty). true≢false (cc))).0 e in
    let (y, leads, (a, (before, after, f, p, ns), number)) = ((a_lookup book (drop k x)).2 r).0 near.1 in
    rw (← number) (All-head (All-rest before (a ∷ after) (rw f at h.1)))

lowest_numbered : {P : Name → Type 0} (ns : List Name) (k : ℕ) (n : Name) → LowestNot P ns k n → k < length ns
lowest_numbered ns k n (before, after, e, l, hs, q) = rw (e, length-append) (omega arith)

lowest_good : {P : Name → Type 0} (ns : List Name) → All GoodName ns → (k : ℕ) (n : Name) → LowestNot P ns k n → GoodName n
lowest_good ns good k n (before, after, e, l, hs, q) = All-head (All-rest before (n ∷ after) (rw e at good))

module _ (who : Applicant) (book : Book) (numbered : Numbered max_records book) (ns : List Name) (few : length ns ≤ max_names)
    (good : All GoodName ns) (d : List ℕ) where
  few_off : {P : Name → Type 0} (k u : ℕ) (n : Name) → LowestNot P ns k n → DecidedAt book n u → u < 127
  few_off k u n l at = (up_below_labels book n u at).1 (lowest_good ns good k n l)

  verdict_fits : Fits (verdict d (map (decision who book) ns))
  verdict_fits = go (verdict d (map (decision who book) ns)) refl
    where
      go : (j : Judgement) → verdict d (map (decision who book) ns) ≡ j → Fits j
      go Permitted e = tt
      go (UnknownCritical w) e =
          let (n, l, (rs, c, set, f, r), at) = ((verdict_by_the_rule who book ns d).1 w.name.0 w.rr.0 w.up.0).0 e in
          (omega (arith, lowest_numbered ns _ n l), rw r at (first_numbered max_records book numbered (base n) rs c set f), few_off _ _ n l at)
      go (NotGranted w) e =
          let (n, l, (rs, c, set, u, f, r), at) = ((verdict_by_the_rule who book ns d).2 w.name.0 w.rr.0 w.up.0).0 e in
          (omega (arith, lowest_numbered ns _ n l), rw r at (first_numbered max_records book numbered (base n) rs c set f), few_off _ _ n l at)
      go (TooManyAliases w) e =
          let (n, l, u, at) = ((verdict_by_the_rule who book ns d).3 w.name.0 w.rr.0 w.up.0).0 e in
          (omega (arith, lowest_numbered ns _ n l), first_alias_numbered max_records book numbered (base n) w.rr.0 u, few_off _ _ n l at)
      go (Refused r) e = absurd ((verdict_by_the_rule who book ns d).4 r e)

pub judge_fits : (request issuer : List ℕ) (who : Applicant) (book : List ℕ) → Fits (judge request issuer who book)
unfolding judge decisions
judge_fits request issuer who book =
    refused_fits (judge_checks request issuer who book) (verdict issuer (decisions request who book))
    (all_cons (request_fits request) (all_cons (issuer_fits issuer) (all_cons (applicant_fits who) (all_cons (book_fits book) all_nil))))
    (verdict_fits who (as_book (records book)) (book_numbered book) (requested_names request) (names_few request) (names_good request) issuer)
