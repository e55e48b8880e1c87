-- What holds of a session from a good opening on, whatever answers come.
use Rattle.std.proofs.lemmas.Option.{none-some, same_Some}
use Rattle.std.specs.Prelude.{Option, None, Some}
use Prim.Native.Nat.{ℕ, zero, suc, ◌+◌, ◌≤◌, ◌<◌}
use native.Mathlib.Omega.{arith}
use native.Mathlib.Nat.{le_of_suc-le-suc, not-suc-le-zero}
use mathlib.Core.Path.{◌≡◌, refl, ap, sym, ◌∙◌}
use mathlib.Core.Logic.{◌≢◌, ◌⊎◌, inl, inr, ⊎_elim}
use mathlib.Core.Bool.{Bool, true, false, cond}
use mathlib.Core.List.{List, [], ◌∷◌, ◌++◌, map}
use lib.ListN.{length, take, drop, get_or}
use borrow.Author.Tests.{lt-ltb}
use Rattle.spec_limits.specs.Limits.{max_records}
use Rattle.spec_octets.specs.Lists.{All, select}
use Rattle.spec_octets.proofs.ListLaws.{All-head, All-rest}
use Rattle.spec_octets.proofs.SelectedLists.{selects_all}
use Rattle.spec_octets.proofs.SelectLaws.{selects_none, selects_first}
use Rattle.spec_name.specs.Names.{Name, ancestors}
use Rattle.spec_request.specs.Request.{is_wildcard, base}
use Rattle.spec_applicant.specs.Applicant.{Applicant}
use Rattle.spec_record.specs.Records.{records}
use Rattle.spec_rule.specs.declared.Judgement.{Judgement}
use Rattle.spec_rule.specs.declared.Judgement.TheVariants.{Permitted}
use Rattle.spec_rule.specs.RelevantSet.{CaaRecord, as_book, Lookup, empty, found, endless, lookup}
use Rattle.spec_rule.specs.Authorizations.{Authorization, granted, is_unknown_critical, governing, grantees, governed_by, unless_forbidden, permits}
use Rattle.spec_rule.specs.Verdicts.{denied, verdict}
use Rattle.spec_rule.specs.Calls.{judgement_code}
use Rattle.spec_rule.proofs.Lookups.{a_lookup}
use Rattle.spec_rule.proofs.AuthorizationLaws.{critical_selects, governing_selects}
use Rattle.spec_rule.proofs.RecordNumbers.{book_numbered}
use Rattle.spec_session.specs.declared.Session.{Session}
use Rattle.spec_session.specs.declared.SessionAnswer.{SessionAnswer}
use Rattle.spec_session.specs.declared.SessionAnswer.TheVariants.{Judged, LookupFailed}
use Rattle.spec_session.specs.Sessions.{asked, verdict_of, standing}
use Rattle.spec_session.specs.Steps.{session_of, closed_with, decided_from, concluded, Answer, book, after}
use Rattle.spec_session.specs.Meaning.{GoodOpening, NumberedBy}
use Rattle.spec_session.specs.Theorems.{session_after, accepted_of, AskedInTurn, AsksOrStands, VerdictStands, OwnNumbers}
use Rattle.spec_session.proofs.StepLaws.{live, closed_asks_nothing, closed_stands, asking_stands_nothing}
use Rattle.spec_session.proofs.Opening.{opens, start_kept, start_issuer, start_applicant, start_asks}
use Rattle.spec_session.proofs.Trails.{OnCourse, below, next, looked, asks_next, Trail, stays, climbs, decides, fails, trail}

-- the names above, one after the other
pub first_ancestor : (u : ℕ) (x : Name) → u < length x → ancestors (drop u x) ≡ drop u x ∷ ancestors (drop (suc u) x)
first_ancestor u [] h = absurd (not-suc-le-zero h)
first_ancestor zero (l ∷ x) h = refl
first_ancestor (suc u) (l ∷ x) h = first_ancestor u x (le_of_suc-le-suc h)

-- the numbers of a verdict on one name are those of the lookup
numbered : (d : List ℕ) (who : Applicant) (wildcard : Bool) (u : ℕ) (l : Lookup) → NumberedBy wildcard l u (verdict d (decided_from who wildcard u l ∷ []))
unfolding verdict
numbered d who wildcard u empty = inl refl
numbered d who wildcard u (endless r) = inr (inr (inr (r, refl, refl)))
numbered d who wildcard u (found rs) = by_critical (select is_unknown_critical rs) refl
  where
    Numbered : Authorization → Type 0
    Numbered a = NumberedBy wildcard (found rs) u (cond (permits d a) Permitted (denied 0 u a))

    by_governing : select is_unknown_critical rs ≡ [] → (gs : List CaaRecord) → governing wildcard rs ≡ gs → Numbered (governed_by who gs)
    by_governing e [] f = inl refl
    by_governing e (g ∷ gs) f = by_grant (permits d (granted g.number (grantees who (g ∷ gs))))
      where
        by_grant : (t : Bool) → NumberedBy wildcard (found rs) u (cond t Permitted (denied 0 u (granted g.number (grantees who (g ∷ gs)))))
        by_grant true = inl refl
        by_grant false = inr (inr (inl (
          rs,
          g,
          refl,
          (selects_none (critical_selects rs)).0 e,
          selects_first (governing_selects wildcard rs) f,
          refl,
        )))

    by_critical : (us : List CaaRecord) → select is_unknown_critical rs ≡ us → Numbered (unless_forbidden us (governed_by who (governing wildcard rs)))
    by_critical [] e = by_governing e (governing wildcard rs) refl
    by_critical (c ∷ us) e = inr (inl (rs, c, refl, selects_first (critical_selects rs) e, refl))

-- the records that a lookup tells are records of the book
abbrev Below : Lookup → Type 0
Below empty = Unit {0}
Below (found rs) = All (λ c. c.number < max_records) rs
Below (endless r) = r < max_records

looked_below : (b : List ℕ) (x : Name) (l : Lookup) → lookup (as_book (records b)) x ≡ l → Below l
looked_below b x empty e = tt
looked_below b x (found rs) e =
    let (y, ends, selects, some-set) = ((a_lookup (as_book (records b)) x).1 rs).0 e in
    selects_all selects (book_numbered b).0
looked_below b x (endless r) e =
    let (y, leads, (a, (before, after, f, p, ns), number)) = ((a_lookup (as_book (records b)) x).2 r).0 e in
    rw (← number) (All-head (All-rest before (a ∷ after) (rw f at (book_numbered b).1)))

-- a verdict on one name is read back from what is kept of it
told_back :
    (wildcard : Bool) (l : Lookup) (u : ℕ) → Below l → (j : Judgement) → NumberedBy wildcard l u j →
    verdict_of (judgement_code j).number (get_or (judgement_code j).values 1 0) u ≡ Some (Judged j)
unfolding judgement_code verdict_of
told_back wildcard l u h j (inl e) = rw e refl
told_back wildcard l u h j (inr (inl (rs, c, f, (before, after, split, p, ns), e))) =
    let few : All (λ c. c.number < max_records) rs = rw f at h in
    rw (e, lt-ltb c.number max_records (All-head (All-rest before (c ∷ after) (rw split at few)))) refl
told_back wildcard l u h j (inr (inr (inl (rs, c, f, known, (before, after, split, p, ns), e)))) =
    let few : All (λ c. c.number < max_records) rs = rw f at h in
    rw (e, lt-ltb c.number max_records (All-head (All-rest before (c ∷ after) (rw split at few)))) refl
told_back wildcard l u h j (inr (inr (inr (r, f, e)))) =
    let few : r < max_records = rw f at h in
    rw (e, lt-ltb r max_records few) refl

stands : {o : Option SessionAnswer} {v : SessionAnswer} → o ≡ Some v → o ≢ None
stands {o} {v} e z = none-some v (sym z ∙ e)

-- a session after k accepted answers: it asks for the next name, or has a verdict
abbrev Place : Name → ℕ → Session → Type 0
Place n k t =
    ((standing t ≡ None) × (asked t ≡ Some (drop k (base n))) × (k < length (base n)))
    ⊎ ((standing t ≢ None) × (asked t ≡ None) × (k ≤ length (base n)))

module _ (issuer : List ℕ) (who : Applicant) (n : Name) where
  abbrev On : Session → List (Option Name × Answer) → Session → Type 0
  On = Trail issuer who n

  pub phase_asks : {s : Session} → OnCourse issuer who n s → standing s ≡ None
  phase_asks {s} c = asking_stands_nothing s (live s c.takes).in_phase

  pub concluded_stands :
      {s : Session} → OnCourse issuer who n s → (b : List ℕ) →
      standing (concluded s n (looked issuer who n s b))
      ≡ Some (Judged (verdict issuer (decided_from who (is_wildcard n) s.up (looked issuer who n s b) ∷ [])))
  concluded_stands {s} c b =
      let l = looked issuer who n s b in
      closed_stands _ _ s (live s c.takes).keeps
      ∙ rw (c.of_issuer, c.of_applicant)
      (told_back (is_wildcard n) l s.up (looked_below b (next issuer who n s) l refl) _ (numbered issuer who (is_wildcard n) s.up l))

  failed_stands : {s : Session} → OnCourse issuer who n s → standing (closed_with 23 0 s) ≡ Some LookupFailed
  unfolding verdict_of
  failed_stands {s} c = closed_stands 23 0 s (live s c.takes).keeps

  names_in_turn : {s t : Session} {ts : List (Option Name × Answer)} → On s ts t →
      map (λ p. p.0) ts ≡ map Some (take (length ts) (ancestors (next issuer who n s)))
  names_in_turn (stays c) = refl
  names_in_turn (climbs {s} {t} {b} {ts} c e h more) =
      rw (first_ancestor s.up (base n) (below issuer who n c)) (ap (◌∷◌ (Some (next issuer who n s))) (names_in_turn more))
  names_in_turn (decides {s} c why) = rw (first_ancestor s.up (base n) (below issuer who n c)) refl
  names_in_turn (fails {s} c) = rw (first_ancestor s.up (base n) (below issuer who n c)) refl

  place : {s t : Session} {ts : List (Option Name × Answer)} → On s ts t → Place n (s.up + length ts) t
  place (stays {s} c) =
      let k : s.up + 0 ≡ s.up = omega arith in
      inl (phase_asks c, rw k (asks_next issuer who n c), rw k (below issuer who n c))
  place (climbs {s} {t} {b} {ts} c e h more) =
      let k : s.up + suc (length ts) ≡ suc s.up + length ts = omega arith in
      rw k (place more)
  place (decides {s} {b} c why) = inr (
    stands (concluded_stands c b),
    closed_asks_nothing _ _ s,
    omega (arith, below issuer who n c),
  )
  place (fails {s} c) = inr (stands (failed_stands c), closed_asks_nothing 23 0 s, omega (arith, below issuer who n c))

  -- the answer that decided
  abbrev Decided : Session → List (Option Name × Answer) → Judgement → Type 0
  Decided s ts j =
      (front : List (Option Name × Answer)) × (y : Name) × (b : List ℕ) × (u : ℕ) × (u ≡ s.up + length front)
      × (ts ≡ front ++ ((Some y, book b) ∷ []))
      × (j ≡ verdict issuer (decided_from who (is_wildcard n) u (lookup (as_book (records b)) y) ∷ []))

  by_the_last : {s t : Session} {ts : List (Option Name × Answer)} → On s ts t → (j : Judgement) → standing t ≡ Some (Judged j) → Decided s ts j
  by_the_last (stays c) j e = absurd (none-some _ (sym (phase_asks c) ∙ e))
  by_the_last (climbs {s} {t} {b} {ts} c f h more) j e =
      let (front, y, a, u, k, split, is) = by_the_last more j e in
      ((Some (next issuer who n s), book b) ∷ front, y, a, u, omega arith, ap (◌∷◌ (Some (next issuer who n s), book b)) split, is)
  by_the_last (decides {s} {b} c why) j e =
      let same = same_Some _ _ (sym e ∙ concluded_stands c b) in
      ([], next issuer who n s, b, s.up, omega arith, refl, cc)
  by_the_last (fails c) j e =
      let same = same_Some _ _ (sym e ∙ failed_stands c) in
      let z : ◌≡◌ {A = ℕ} 0 1 = cc in absurd (omega arith)

-- from a good opening on
module _ {request issuer : List ℕ} {who : Applicant} {n : Name} (g : GoodOpening request issuer who n) where
  pub at_start : OnCourse issuer who n (session_of request issuer who)
  at_start = record { takes = start_asks g; of_name = start_kept g; of_issuer = start_issuer g; of_applicant = start_applicant g }

  pub from_start : (given : List Answer) → Trail issuer who n (session_of request issuer who) (accepted_of request issuer who given) (session_after request issuer who given)
  from_start given = rw (opens g) (trail issuer who n given (session_of request issuer who) at_start)

  from_none : (k : ℕ) → (session_of request issuer who).up + k ≡ k
  unfolding session_of
  from_none k = omega arith

  placed : (given : List Answer) → Place n (length (accepted_of request issuer who given)) (session_after request issuer who given)
  placed given = rw (from_none (length (accepted_of request issuer who given))) at (place issuer who n (from_start given))

pub asks_or_stands : AsksOrStands
asks_or_stands request issuer who n g given = ⊎_elim (λ h. inl h) (λ h. inr (h.0, h.1)) (placed g given)

pub asked_in_turn : AskedInTurn
unfolding session_of
asked_in_turn request issuer who n g given = (
  names_in_turn issuer who n (from_start g given),
  λ y e. ⊎_elim
      (λ h. same_Some _ _ (sym e ∙ h.1))
      (λ h. absurd (none-some y (sym h.1 ∙ e)))
      (placed g given),
)

pub verdict_stands : VerdictStands
verdict_stands request issuer who n g given = ⊎_elim
    (λ h. (omega (arith, h.2), λ e. absurd (omega (arith, h.2))))
    (λ h. (h.2, λ e. h.0))
    (placed g given)

pub own_numbers : OwnNumbers
unfolding session_of
own_numbers request issuer who n g given j e =
    let (front, y, b, u, k, split, is) = by_the_last issuer who n (from_start g given) j e in
    told front y b u (omega arith) split is
  where
    told :
        (front : List (Option Name × Answer)) (y : Name) (b : List ℕ) (u : ℕ) → u ≡ length front →
        accepted_of request issuer who given ≡ front ++ ((Some y, book b) ∷ []) →
        j ≡ verdict issuer (decided_from who (is_wildcard n) u (lookup (as_book (records b)) y) ∷ []) →
        (front : List (Option Name × Answer)) × (y : Name) × (b : List ℕ)
        × (accepted_of request issuer who given ≡ front ++ ((Some y, book b) ∷ []))
        × (j ≡ verdict issuer (decided_from who (is_wildcard n) (length front) (lookup (as_book (records b)) y) ∷ []))
        × NumberedBy (is_wildcard n) (lookup (as_book (records b)) y) (length front) j
    told front y b u k split is =
        let l = lookup (as_book (records b)) y in
        (front, y, b, split, rw k at is, rw (← k, is) (numbered issuer who (is_wildcard n) u l))
