-- A session decides as one whole book does, where each answer has for its name what that book has.
use Rattle.std.proofs.lemmas.Option.{none-some, same_Some}
use Rattle.std.specs.Prelude.{Option, None, Some}
use Prim.Native.Nat.{ℕ, suc, ◌+◌, ◌≤◌, ◌<◌}
use native.Mathlib.Omega.{arith}
use mathlib.Core.Path.{◌≡◌, refl, ap, sym, ◌∙◌}
use mathlib.Core.Logic.{◌≢◌, ◌⊎◌, inl, inr}
use mathlib.Core.Bool.{true≢false}
use mathlib.Core.List.{List, [], ◌∷◌, map, append-nil}
use lib.ListN.{length, drop, drop_of_length-le}
use borrow.Author.Tests.{leb-true}
use Rattle.spec_limits.specs.Limits.{max_names}
use Rattle.spec_octets.specs.Lists.{All, all_nil, all_cons}
use Rattle.spec_octets.proofs.ListLaws.{All-head, All-tail}
use Rattle.spec_name.specs.Names.{Name, wire, ancestors}
use Rattle.spec_request.specs.Request.{is_wildcard, base}
use Rattle.spec_request.proofs.Requests.{request_is_its_names}
use Rattle.spec_issuer.proofs.Dotted.{issuer_refusals}
use Rattle.spec_applicant.specs.Applicant.{Applicant}
use Rattle.spec_applicant.proofs.Texts.{applicant_refusals}
use Rattle.spec_record.specs.Records.{records, book_refusal}
use Rattle.spec_rule.specs.declared.Judgement.{Judgement}
use Rattle.spec_rule.specs.RelevantSet.{Book, as_book, Lookup, empty, lookup, first_found, relevant_set, empty_before, labels_off}
use Rattle.spec_rule.specs.Authorizations.{authorization}
use Rattle.spec_rule.specs.Verdicts.{decision, verdict}
use Rattle.spec_rule.specs.Calls.{decisions, judge}
use Rattle.spec_rule.specs.Theorems.{renumbered_verdict}
use Rattle.spec_session.specs.declared.Session.{Session}
use Rattle.spec_session.specs.declared.SessionAnswer.{SessionAnswer}
use Rattle.spec_session.specs.declared.SessionAnswer.TheVariants.{Judged}
use Rattle.spec_session.specs.Sessions.{standing}
use Rattle.spec_session.specs.Steps.{session_of, decided_from, Answer, book}
use Rattle.spec_session.specs.Meaning.{GoodOpening, Agrees}
use Rattle.spec_session.specs.Theorems.{AsTheWholeBook}
use Rattle.spec_session.proofs.Opening.{short, names_within}
use Rattle.spec_session.proofs.Trails.{below, next, looked, Trail, stays, climbs, decides, fails}
use Rattle.spec_session.proofs.Runs.{first_ancestor, phase_asks, concluded_stands, from_start}
use Rattle.spec_session.proofs.SameLookups.{Alike, both_empty, both_found, both_endless, same_lookups}
use Rattle.spec_session.proofs.SameProperties.{verdicts_alike}

-- nothing where the other has nothing
alike_empty : {l m : Lookup} → Alike l m → l ≡ empty → m ≡ empty
alike_empty both_empty e = refl
alike_empty (both_found h) e = absurd (true≢false (cc))
alike_empty both_endless e = absurd (true≢false (cc))

module _ (issuer : List ℕ) (who : Applicant) (n : Name) (whole : List ℕ) where
  abbrev library : Book
  library = as_book (records whole)

  -- what the whole book has from u labels up, and how far up from there
  abbrev lookups : ℕ → List Lookup
  lookups u = map (lookup library) (ancestors (drop u (base n)))

  abbrev ruled : ℕ → Judgement
  ruled u = verdict issuer (decided_from who (is_wildcard n) (u + empty_before (lookups u)) (first_found (lookups u)) ∷ [])

  abbrev unnumbered : Judgement → Judgement
  unnumbered j = renumbered_verdict (λ r. 0) j

  lookups_from : (u : ℕ) → u < length (base n) → lookups u ≡ lookup library (drop u (base n)) ∷ lookups (suc u)
  lookups_from u h = rw (first_ancestor u (base n) h) refl

  -- an answer that agrees has the same lookup
  agreed : (s : Session) (b : List ℕ) → Agrees whole (Some (next issuer who n s), book b) → Alike (looked issuer who n s b) (lookup library (next issuer who n s))
  agreed s b (x, c, e, f, h) =
      let same = same_Some _ _ e in
      let read : b ≡ c = cc in
      same_lookups library (as_book (records b)) (next issuer who n s) (rw (← same, ← read) at h)

  -- nothing at the first name: the rest decides
  passed : (u : ℕ) → u < length (base n) → lookup library (drop u (base n)) ≡ empty → ruled u ≡ ruled (suc u)
  passed u h e =
      let k : u + suc (empty_before (lookups (suc u))) ≡ suc u + empty_before (lookups (suc u)) = omega arith in
      rw (lookups_from u h, e) (ap (λ i. verdict issuer (decided_from who (is_wildcard n) i (first_found (lookups (suc u))) ∷ [])) k)

  -- the last lookup of the session
  settled :
      (u : ℕ) → u < length (base n) → (l m : Lookup) → lookup library (drop u (base n)) ≡ m → Alike l m →
      (l ≢ empty) ⊎ (suc u ≡ length (base n)) →
      unnumbered (verdict issuer (decided_from who (is_wildcard n) u l ∷ [])) ≡ unnumbered (ruled u)
  unfolding verdict
  settled u h l m e both_empty (inl why) = absurd (why refl)
  settled u h l m e both_empty (inr why) =
      let top : drop (suc u) (base n) ≡ [] = drop_of_length-le (base n) {i = suc u} (omega arith) in
      rw (lookups_from u h, e, top) refl
  settled u h l m e (both_found {rs} {qs} s) why =
      let k : u + 0 ≡ u = omega arith in
      rw (lookups_from u h, e, k) (verdicts_alike issuer who (is_wildcard n) u (both_found {rs = rs} {qs = qs} s))
  settled u h l m e both_endless why =
      let k : u + 0 ≡ u = omega arith in
      rw (lookups_from u h, e, k) refl

  abbrev Verdict : ℕ → SessionAnswer → Type 0
  Verdict u v = (j : Judgement) × (v ≡ Judged j) × (unnumbered j ≡ unnumbered (ruled u))

  as_whole :
      {s t : Session} {ts : List (Option Name × Answer)} → Trail issuer who n s ts t → All (Agrees whole) ts →
      (v : SessionAnswer) → standing t ≡ Some v → Verdict s.up v
  as_whole (stays c) all v e = absurd (none-some v (sym (phase_asks issuer who n c) ∙ e))
  as_whole (climbs {s} {t} {b} {ts} c nothing h more) all v e =
      let there = alike_empty (agreed s b (All-head all)) nothing in
      rw (passed s.up (below issuer who n c) there) (as_whole more (All-tail all) v e)
  as_whole (decides {s} {b} c why) all v e = (
    verdict issuer (decided_from who (is_wildcard n) s.up (looked issuer who n s b) ∷ []),
    same_Some _ _ (sym e ∙ concluded_stands issuer who n c b),
    settled s.up (below issuer who n c) (looked issuer who n s b) (lookup library (next issuer who n s)) refl (agreed s b (All-head all)) why,
  )
  as_whole (fails {s} c) all v e =
      let (x, b, f, g, h) = All-head all in
      let z : ◌≡◌ {A = ℕ} 0 1 = cc in absurd (omega arith)

one_name_fits : 1 ≤ max_names
unfolding max_names
one_name_fits = leb-true 1 250 refl

-- the whole book judges the one name
judged :
    {request issuer : List ℕ} {who : Applicant} {n : Name} → GoodOpening request issuer who n → (whole : List ℕ) → book_refusal whole ≡ None →
    judge request issuer who whole ≡ ruled issuer who n whole 0
unfolding judge decisions decision authorization relevant_set labels_off
judged {request} {issuer} {who} {n} g whole e =
    let (taken, names) = (request_is_its_names request g.are_octets (n ∷ [])).1 (
      g.one_name ∙ sym (append-nil (wire n)),
      all_cons g.valid all_nil,
      omega arith,
      one_name_fits,
      omega (arith, short g, names_within),
    ) in
    let off = empty_before (lookups issuer who n whole 0) in
    let k : 0 + off ≡ off = omega arith in
    rw (taken, (issuer_refusals issuer).1.1 g.well_formed, (applicant_refusals who).1.1 g.applicant, e, names)
    (ap (λ i. verdict issuer (decided_from who (is_wildcard n) i (first_found (lookups issuer who n whole 0)) ∷ [])) (sym k))

pub as_the_whole_book : AsTheWholeBook
unfolding session_of
as_the_whole_book request issuer who n g given whole e all v h =
    rw (judged g whole e) (as_whole issuer who n whole (from_start g given) all v h)
