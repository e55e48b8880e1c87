-- The ways out of the functions that take a book.
use Rattle.std.specs.Prelude.{None, Some, Result, Ok, Err, Option}
use Prim.Native.Nat.{ℕ, suc, ◌+◌, ◌<◌}
use native.Mathlib.Numerals.{add-one}
use native.Mathlib.Omega.{arith}
use mir.Syntax.{w64}
use mir.Val.{Fits}
use mathlib.Core.Path.{◌≡◌, refl, ap, sym, ◌∙◌}
use mathlib.Core.Bool.{Bool, true, false, ◌&&◌, true≢false}
use mathlib.Core.List.{List}
use lib.Dec.{ltb}
use lib.ListN.{length, drop}
use Rattle.spec_limits.specs.Limits.{max_name_octets}
use Rattle.spec_refusal.specs.declared.Refusal.{Refusal}
use Rattle.spec_refusal.specs.declared.Refusal.TheVariants.{SessionEnded}
use Rattle.spec_refusal.specs.Refusal.{number}
use Rattle.spec_refusal.specs.Checks.{checked}
use Rattle.spec_refusal.proofs.Checked.{refused, accepted}
use Rattle.spec_name.specs.Names.{Name, wire}
use Rattle.spec_name.proofs.NameLaws.{fewer_labels}
use Rattle.spec_request.specs.Request.{is_wildcard, base}
use Rattle.spec_request.proofs.RequestedNames.{good_base}
use Rattle.spec_issuer.specs.Issuer.{is_issuer}
use Rattle.spec_record.specs.Records.{records, book_refusal}
use Rattle.spec_applicant.specs.Applicant.{is_applicant}
use Rattle.spec_rule.specs.declared.Denial.{Denial}
use Rattle.spec_rule.specs.declared.Judgement.{Judgement}
use Rattle.spec_rule.specs.declared.Judgement.TheVariants.{Permitted, UnknownCritical, NotGranted, TooManyAliases, Refused}
use Rattle.spec_rule.specs.RelevantSet.{as_book, Lookup, empty, found, endless, lookup}
use Rattle.spec_rule.specs.Verdicts.{verdict}
use Rattle.spec_rule.specs.Calls.{judgement_code}
use Rattle.spec_session.specs.declared.Session.{Session}
use Rattle.spec_session.specs.declared.SessionAnswer.TheVariants.{Judged}
use Rattle.spec_session.specs.declared.Stepped.{Stepped}
use Rattle.spec_session.specs.Sessions.{held, kept_name, kept_applicant, reaches, is_kept, is_asking}
use Rattle.spec_session.specs.Steps.{ended_refusal, goes_to, one_up, closed_with, closed_by, by_lookup, by_records, answered}
use Rattle.spec_session.proofs.Kept.{reached, kept_tests}
use Rattle.spec_session.proofs.StepLaws.{live}
use Rattle.session_kept.specs.declared.Place.{Place}
use Rattle.session_kept.specs.Places.{kept_at}
use Rattle.session_kept.proofs.NamesAbove.{name_alone}
use Rattle.session_check.proofs.KeptLaws.{broken, at_place}
use Rattle.session_look.specs.Looks.{looked_at}
use Rattle.session_look.specs.Theorems.{looked_by_rule}
use Rattle.session_look.proofs.RuleLook.{look_by_the_rule}
use Rattle.session_answer.proofs.AskedPart.{asked_good}

-- a session that keeps the rules
module _ (s : Session) (k : is_kept s ≡ true) where
  -- no name has so many labels that the next number is too large
  few_off : s.up < 255
  unfolding kept_name max_name_octets
  few_off =
      let (n, f, up) = (reached (kept_name s) s.up).0 ((kept_tests s).0 k).0 in
      let (whole, good) = name_alone (held s.name) n f in
      omega (arith, up, fewer_labels (base n), (good_base n good).1)

  pub up_fits : Fits w64 (s.up + 1)
  up_fits = record { fits = omega (arith, few_off) }

  pub label_off :
      (u : ℕ) → u ≡ s.up + 1 →
      ◌≡◌ {A = Session}
      (record { phase = s.phase; up = u; verdict = s.verdict; rr = s.rr; name = s.name; issuer = s.issuer; account = s.account; method = s.method })
      (one_up s)
  label_off u e = rw (e, add-one) refl

  module _ (n : Name) (f : kept_name s ≡ Some n) where
    both_true : (t : Bool) → (t && true) && true ≡ t
    both_true true = refl
    both_true false = refl

    -- with one more label taken off, only the number of labels can break a rule
    next_kept : is_kept (one_up s) ≡ ltb (suc s.up) (length (base n))
    unfolding is_kept kept_name kept_applicant
    next_kept =
        ap (λ o. (reaches o (suc s.up) && is_issuer (held s.issuer)) && is_applicant (kept_applicant s)) f
        ∙ ap (λ i. (ltb (suc s.up) (length (base n)) && i) && is_applicant (kept_applicant s)) ((kept_tests s).0 k).1
        ∙ ap (λ w. (ltb (suc s.up) (length (base n)) && true) && w) ((kept_tests s).0 k).2
        ∙ both_true (ltb (suc s.up) (length (base n)))

  module _ (t : Session) (e : t ≡ one_up s) (q : Option Place) (g : q ≡ kept_at t) where
    pub asks_parent_lem : (p : Place) → q ≡ Some p → (n : Name) → kept_name s ≡ Some n → t ≡ by_lookup s n empty
    asks_parent_lem p h n f =
        let keeps : is_kept (one_up s) ≡ true = rw e at (at_place t p (sym g ∙ h)).0 in
        rw (sym (next_kept n f) ∙ keeps) e

    pub no_parent : q ≡ None → (r : Session) → r ≡ closed_with 0 0 s → (n : Name) → kept_name s ≡ Some n → r ≡ by_lookup s n empty
    unfolding verdict judgement_code
    no_parent h r i n f =
        let breaks : is_kept (one_up s) ≡ false = rw e at (broken t (sym g ∙ h)) in
        rw (sym (next_kept n f) ∙ breaks) i

-- ends by a verdict
module _ (s : Session) (j : Judgement) (t : Session) where
  pub ends_0 : j ≡ Permitted → t ≡ closed_with 0 0 s → t ≡ closed_by j s
  unfolding judgement_code
  ends_0 e g = rw e g

  pub ends_20 : (d : Denial) → j ≡ UnknownCritical d → t ≡ closed_with 20 d.rr.0 s → t ≡ closed_by j s
  unfolding judgement_code
  ends_20 d e g = rw e g

  pub ends_21 : (d : Denial) → j ≡ NotGranted d → t ≡ closed_with 21 d.rr.0 s → t ≡ closed_by j s
  unfolding judgement_code
  ends_21 d e g = rw e g

  pub ends_22 : (d : Denial) → j ≡ TooManyAliases d → t ≡ closed_with 22 d.rr.0 s → t ≡ closed_by j s
  unfolding judgement_code
  ends_22 d e g = rw e g

  pub ends_refused : (r : Refusal) → j ≡ Refused r → (n : ℕ) → n ≡ number r → t ≡ closed_with n 0 s → t ≡ closed_by j s
  unfolding judgement_code
  ends_refused r e n f g = rw (e, ← f) g

-- where the name asked for is
pub stands_there : (s : Session) (q : Option Place) (p : Place) → q ≡ kept_at s → q ≡ Some p → kept_at s ≡ Some p
stands_there s q p g e = sym g ∙ e

-- the verdict that decides is one alone
decides_same : {j k : Judgement} → Some j ≡ Some k → j ≡ k
decides_same e = cc

-- a session that takes answers, and an accepted book
module _ (s : Session) (b : List ℕ) (takes : is_asking s ≡ true) (passes : book_refusal b ≡ None) where
  pub asks_keeps : is_kept s ≡ true
  asks_keeps = (live s takes).keeps

  pub never_broken : (q : Option Place) → q ≡ kept_at s → q ≡ None → s ≡ by_records s (kept_name s) (as_book (records b))
  never_broken q g e = absurd (true≢false (sym asks_keeps ∙ broken s (sym g ∙ e)))

  abbrev name : Name
  name = (live s takes).name

  abbrev the_lookup : Lookup
  the_lookup = lookup (as_book (records b)) (drop s.up (base name))

  records_by : by_records s (kept_name s) (as_book (records b)) ≡ by_lookup s name the_lookup
  records_by = ap (λ o. by_records s o (as_book (records b))) (live s takes).kept

  module _ (r : Option Judgement)
      (g : (n : Name) → kept_name s ≡ Some n → r ≡ looked_at (kept_applicant s) (held s.issuer) b s.up (is_wildcard n) (wire (drop s.up (base n)))) where
    ruled : r ≡ looked_by_rule (kept_applicant s) (held s.issuer) s.up (is_wildcard name) the_lookup
    ruled =
        g name (live s takes).kept
        ∙ look_by_the_rule (kept_applicant s) (held s.issuer) b s.up (is_wildcard name) (drop s.up (base name)) passes
        (asked_good s name (live s takes).kept)

    pub finds_none :
        r ≡ None → (t : Session) → ((n : Name) → kept_name s ≡ Some n → t ≡ by_lookup s n empty) → t ≡ by_records s (kept_name s) (as_book (records b))
    finds_none e t h = go the_lookup refl (sym e ∙ ruled)
      where
        go :
            (l : Lookup) → the_lookup ≡ l → None ≡ looked_by_rule (kept_applicant s) (held s.issuer) s.up (is_wildcard name) l →
            t ≡ by_records s (kept_name s) (as_book (records b))
        go empty f i = h name (live s takes).kept ∙ sym (records_by ∙ ap (by_lookup s name) f)
        go (found rs) f i = let z : ◌≡◌ {A = ℕ} 0 1 = cc in absurd (omega arith)
        go (endless q) f i = let z : ◌≡◌ {A = ℕ} 0 1 = cc in absurd (omega arith)

    pub finds_verdict : (j : Judgement) → r ≡ Some j → (t : Session) → t ≡ closed_by j s → t ≡ by_records s (kept_name s) (as_book (records b))
    finds_verdict j e t h = h ∙ go the_lookup refl (sym e ∙ ruled)
      where
        go :
            (l : Lookup) → the_lookup ≡ l → Some j ≡ looked_by_rule (kept_applicant s) (held s.issuer) s.up (is_wildcard name) l →
            closed_by j s ≡ by_records s (kept_name s) (as_book (records b))
        go empty f i = let z : ◌≡◌ {A = ℕ} 0 1 = cc in absurd (omega arith)
        go (found rs) f i = ap (λ v. closed_by v s) (decides_same i) ∙ sym (records_by ∙ ap (by_lookup s name) f)
        go (endless q) f i = ap (λ v. closed_by v s) (decides_same i) ∙ sym (records_by ∙ ap (by_lookup s name) f)

-- answer
module _ (s : Session) (b : List ℕ) (t : Bool) (f : t ≡ is_asking s) where
  pub answers_not : t ≡ false → ◌≡◌ {A = Stepped} (record { answer = Judged (Refused SessionEnded); session = s }) (answered s b)
  unfolding answered ended_refusal
  answers_not e = rw (← f, e) refl

  pub takes_answer : t ≡ true → is_asking s ≡ true
  takes_answer e = sym f ∙ e

  module _ (e : t ≡ true) (c : Result Unit Refusal) (g : c ≡ checked (book_refusal b)) where
    pub book_refused : (r : Refusal) → c ≡ Err r → ◌≡◌ {A = Stepped} (record { answer = Judged (Refused r); session = s }) (answered s b)
    unfolding answered ended_refusal
    book_refused r h = rw (← f, e, refused (book_refusal b) g r h) refl

    pub passes_check : c ≡ (Ok tt) → book_refusal b ≡ None
    passes_check h = accepted (book_refusal b) g h

    pub answers_so :
        c ≡ (Ok tt) → (u : Session) → u ≡ by_records s (kept_name s) (as_book (records b)) → (r : Stepped) → r ≡ goes_to u → r ≡ answered s b
    unfolding answered ended_refusal
    answers_so h u k r i = rw (← f, e, accepted (book_refusal b) g h) (i ∙ ap goes_to k)
