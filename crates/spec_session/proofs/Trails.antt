-- A session on its way: which answers are accepted, and where it ends.
use Rattle.std.proofs.lemmas.Option.{none-some, same_Some}
use Rattle.std.specs.Prelude.{Option, None, Some}
use Prim.Native.Nat.{ℕ, suc, ◌<◌}
use native.Mathlib.Omega.{arith}
use mathlib.Core.Path.{◌≡◌, refl, ap, sym, ◌∙◌}
use mathlib.Core.Logic.{◌≢◌, ◌⊎◌, inl, inr}
use mathlib.Core.Bool.{Bool, true, false, cond, ◌&&◌, true≢false, and-eq-true_iff}
use mathlib.Core.List.{List, [], ◌∷◌}
use lib.Dec.{eqb, ltb}
use lib.ListN.{length, drop}
use borrow.Author.Tests.{ltb-true, ltb-false, lt-ltb}
use Rattle.spec_refusal.specs.declared.Refusal.{Refusal}
use Rattle.spec_name.specs.Names.{Name}
use Rattle.spec_request.specs.Request.{base}
use Rattle.spec_issuer.specs.Issuer.{is_issuer}
use Rattle.spec_applicant.specs.Applicant.{Applicant, is_applicant}
use Rattle.spec_record.specs.Records.{records, book_refusal}
use Rattle.spec_rule.specs.RelevantSet.{as_book, Lookup, empty, found, endless, lookup}
use Rattle.spec_session.specs.declared.Session.{Session}
use Rattle.spec_session.specs.Sessions.{held, kept_name, kept_applicant, reaches, is_kept, asking, is_asking, asked}
use Rattle.spec_session.specs.Steps.{ended_refusal, refused_with, goes_to, one_up, closed_with, concluded, by_lookup, answered, failed, Answer, book, lookup_failed, step, after, accepted}
use Rattle.spec_session.specs.Theorems.{EndedStays}
use Rattle.spec_session.proofs.StepLaws.{live, asks, ended_refuses, refused_book, closed_asks_nothing, state_no_refusal}

-- an ended session stays as it is, whatever comes
pub ended_stays : EndedStays
ended_stays s [] e = (refl, refl)
ended_stays s (a ∷ more) e = rw (ended_refuses s a e) (ended_stays s more e)

-- one answer in front: it is refused, or it leads to another session
module _ (s : Session) (a : Answer) (more : List Answer) where
  passed_over :
      (r : Refusal) → step s a ≡ refused_with r s → (accepted s (a ∷ more) ≡ accepted s more) × (after s (a ∷ more) ≡ after s more)
  passed_over r e = rw e (refl, refl)

  taken : (t : Session) → step s a ≡ goes_to t → (accepted s (a ∷ more) ≡ (asked s, a) ∷ accepted t more) × (after s (a ∷ more) ≡ after t more)
  taken t e = rw (e, state_no_refusal t) (refl, refl)

module _ (issuer : List ℕ) (who : Applicant) (n : Name) where
  -- a session that asks for n or for a name above it
  pub record OnCourse (s : Session) : Type 0 where
    pub takes : is_asking s ≡ true
    pub of_name : kept_name s ≡ Some n
    pub of_issuer : held s.issuer ≡ issuer
    pub of_applicant : kept_applicant s ≡ who

  pub below : {s : Session} → OnCourse s → s.up < length (base n)
  below {s} c =
      let l = live s c.takes in
      let same = same_Some l.name n (sym l.kept ∙ c.of_name) in
      rw (← same) l.below

  -- the name that it asks for
  abbrev pub next : Session → Name
  next s = drop s.up (base n)

  abbrev pub looked : Session → List ℕ → Lookup
  looked s b = lookup (as_book (records b)) (next s)

  pub asks_next : {s : Session} → OnCourse s → asked s ≡ Some (next s)
  asks_next {s} c = asks s n c.takes c.of_name

  one_up_asks : {s : Session} → OnCourse s → suc s.up < length (base n) → is_asking (one_up s) ≡ true
  unfolding is_asking is_kept kept_name kept_applicant
  one_up_asks {s} c h =
      let (phase, keeps) = (and-eq-true_iff (eqb s.phase asking) (is_kept s)).0 c.takes in
      let (both, good) = (and-eq-true_iff (reaches (kept_name s) s.up && is_issuer (held s.issuer)) (is_applicant (kept_applicant s))).0 keeps in
      let (old, well) = (and-eq-true_iff (reaches (kept_name s) s.up) (is_issuer (held s.issuer))).0 both in
      all_hold phase (up_reaches c.of_name) well good
    where
      up_reaches : kept_name s ≡ Some n → reaches (kept_name s) (suc s.up) ≡ true
      up_reaches e = rw e (lt-ltb (suc s.up) (length (base n)) h)

      all_hold : {p q r t : Bool} → p ≡ true → q ≡ true → r ≡ true → t ≡ true → p && (q && r && t) ≡ true
      all_hold a b c d = rw (a, b, c, d) refl

  pub one_up_course : {s : Session} → OnCourse s → suc s.up < length (base n) → OnCourse (one_up s)
  unfolding kept_name kept_applicant
  one_up_course c h = record { takes = one_up_asks c h; of_name = c.of_name; of_issuer = c.of_issuer; of_applicant = c.of_applicant }

  -- the answers that were accepted, and the session after them
  pub data Trail : Session → List (Option Name × Answer) → Session → Type 0 where
    stays : {s : Session} → OnCourse s → Trail s [] s
    climbs : {s t : Session} {b : List ℕ} {ts : List (Option Name × Answer)} →
        OnCourse s → looked s b ≡ empty → suc s.up < length (base n) → Trail (one_up s) ts t → Trail s ((Some (next s), book b) ∷ ts) t
    decides : {s : Session} {b : List ℕ} →
        OnCourse s → (looked s b ≢ empty) ⊎ (suc s.up ≡ length (base n)) →
        Trail s ((Some (next s), book b) ∷ []) (concluded s n (looked s b))
    fails : {s : Session} → OnCourse s → Trail s ((Some (next s), lookup_failed) ∷ []) (closed_with 23 0 s)

  -- an accepted book
  read : {s : Session} (b : List ℕ) → OnCourse s → book_refusal b ≡ None → step s (book b) ≡ goes_to (by_lookup s n (looked s b))
  unfolding answered ended_refusal
  read b c e = rw (c.takes, e, c.of_name) refl

  gave_up : {s : Session} → OnCourse s → step s lookup_failed ≡ goes_to (closed_with 23 0 s)
  unfolding failed ended_refusal
  gave_up c = rw c.takes refl

  -- a session that ends with the first answer
  ends_here :
      (s : Session) (a : Answer) (more : List Answer) (t : Session) → OnCourse s → step s a ≡ goes_to t → asked t ≡ None →
      Trail s ((Some (next s), a) ∷ []) t → Trail s (accepted s (a ∷ more)) (after s (a ∷ more))
  ends_here s a more t c e nothing done =
      let (front, last) = taken s a more t e in
      let (same, None-more) = ended_stays t more nothing in
      rw (front, last, asks_next c, same, None-more) done

  pub trail : (given : List Answer) (s : Session) → OnCourse s → Trail s (accepted s given) (after s given)
  trail [] s c = stays c
  trail (lookup_failed ∷ more) s c = ends_here s lookup_failed more (closed_with 23 0 s) c (gave_up c) (closed_asks_nothing 23 0 s) (fails c)
  trail (book b ∷ more) s c = by_check (book_refusal b) refl (trail more)
    where
      Later : Type 0
      Later = (t : Session) → OnCourse t → Trail t (accepted t more) (after t more)

      Here : Type 0
      Here = Trail s (accepted s (book b ∷ more)) (after s (book b ∷ more))

      concludes : step s (book b) ≡ goes_to (concluded s n (looked s b)) → (looked s b ≢ empty) ⊎ (suc s.up ≡ length (base n)) → Here
      concludes e why = ends_here s (book b) more (concluded s n (looked s b)) c e (closed_asks_nothing _ _ s) (decides c why)

      goes_up : step s (book b) ≡ goes_to (one_up s) → looked s b ≡ empty → suc s.up < length (base n) → Later → Here
      goes_up e nothing h later =
          let (front, last) = taken s (book b) more (one_up s) e in
          rw (front, last, asks_next c) (climbs c nothing h (later (one_up s) (one_up_course c h)))

      by_label :
          (t : Bool) → ltb (suc s.up) (length (base n)) ≡ t → looked s b ≡ empty →
          step s (book b) ≡ goes_to (cond t (one_up s) (concluded s n empty)) → Later → Here
      by_label true u nothing e later = goes_up e nothing (ltb-true _ _ u) later
      by_label false u nothing e later = concludes
          (e ∙ ap (λ l. goes_to (concluded s n l)) (sym nothing))
          (inr (omega (arith, ltb-false (suc s.up) (length (base n)) u, below c)))

      by_lookup_lem : (l : Lookup) → looked s b ≡ l → step s (book b) ≡ goes_to (by_lookup s n l) → Later → Here
      by_lookup_lem empty f e later = by_label (ltb (suc s.up) (length (base n))) refl f e later
      by_lookup_lem (found rs) f e later = concludes
          (e ∙ ap (λ l. goes_to (concluded s n l)) (sym f))
          (inl (λ z. true≢false (let w = sym f ∙ z in cc)))
      by_lookup_lem (endless r) f e later = concludes
          (e ∙ ap (λ l. goes_to (concluded s n l)) (sym f))
          (inl (λ z. true≢false (let w = sym f ∙ z in cc)))

      by_check : (o : Option Refusal) → book_refusal b ≡ o → Later → Here
      by_check None e later = by_lookup_lem (looked s b) refl (read b c e) later
      by_check (Some r) e later =
          let named : asked s ≢ None = λ z. none-some _ (sym z ∙ asks_next c) in
          let (front, last) = passed_over s (book b) more r (refused_book s b r named e) in
          rw (front, last) (later s c)
