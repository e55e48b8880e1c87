-- What one answer does to a session: refusals, and the session that stays or ends.
use Rattle.std.proofs.lemmas.Option.{none-some, same_Some}
use Rattle.std.specs.Prelude.{Option, None, Some}
use Prim.Native.Nat.{ℕ, ◌<◌}
use mathlib.Core.Path.{◌≡◌, refl, ap, sym, ◌∙◌}
use mathlib.Core.Logic.Iff
use mathlib.Core.Logic.{◌↔◌, ◌≢◌, ⊎_elim}
use mathlib.Core.Bool.{Bool, true, false, cond, ◌&&◌, true≢false, false≢true, and-eq-true_iff}
use mathlib.Core.List.{List, [], ◌∷◌}
use lib.Dec.{eqb, ltb}
use lib.ListN.{length, drop}
use Rattle.spec_limits.specs.Limits.{max_records}
use Rattle.spec_refusal.specs.declared.Refusal.{Refusal}
use Rattle.spec_refusal.specs.declared.Refusal.TheVariants.{SessionEnded}
use Rattle.spec_refusal.specs.Refusal.{number}
use Rattle.spec_octets.proofs.ListLaws.{true_or_false, not_passed}
use Rattle.spec_name.specs.Names.{Name}
use Rattle.spec_request.specs.Request.{base}
use Rattle.spec_rule.specs.declared.Judgement.TheVariants.{Refused}
use Rattle.spec_rule.specs.Calls.{first_refusal}
use Rattle.spec_rule.proofs.CheckOrder.{checked_at, Keeps, first_row, in_front, one_row}
use Rattle.spec_rule.proofs.RefusalLaws.{book_keeps}
use Rattle.spec_session.specs.declared.Session.{Session}
use Rattle.spec_session.specs.declared.SessionAnswer.{SessionAnswer}
use Rattle.spec_session.specs.declared.SessionAnswer.TheVariants.{Judged}
use Rattle.spec_session.specs.Sessions.{held, kept_name, kept_applicant, is_kept, asking, decided, is_asking, asked, of_record, verdict_of, standing, state_from, state}
use Rattle.spec_session.specs.Steps.{ended_refusal, closed_with, answered_or, answer_checks, answered, failed_or, failed, book, lookup_failed, is_refusal}
use Rattle.spec_session.specs.Meaning.{EndedRow}
use Rattle.spec_session.specs.Theorems.{EndedRefuses, StateTells, AnswerRefusals, RefusedAnswer, RefusedBook, FailedEnds, AnsweredByState}
use Rattle.spec_session.proofs.Kept.{reached, kept_tests}

-- a session that takes answers has a name, and asks for it or for a name above it
pub record Live (s : Session) : Type 0 where
  pub name : Name
  pub kept : kept_name s ≡ Some name
  pub below : s.up < length (base name)
  pub in_phase : s.phase ≡ asking
  pub keeps : is_kept s ≡ true

pub live : (s : Session) → is_asking s ≡ true → Live s
unfolding is_asking
live s e =
    let (phase, keeps) = (and-eq-true_iff (eqb s.phase asking) (is_kept s)).0 e in
    let (n, f, up) = (reached (kept_name s) s.up).0 ((kept_tests s).0 keeps).0 in
    record { name = n; kept = f; below = up; in_phase = borrow.Author.Tests.eqb-true _ _ phase; keeps = keeps }

pub asks : (s : Session) (n : Name) → is_asking s ≡ true → kept_name s ≡ Some n → asked s ≡ Some (drop s.up (base n))
unfolding asked
asks s n e f = rw (e, f)

pub asks_nothing : (s : Session) → is_asking s ≡ false → asked s ≡ None
unfolding asked
asks_nothing s e = rw e

pub ended : (s : Session) → asked s ≡ None → is_asking s ≡ false
ended s e = not_passed (is_asking s) (λ t. let l = live s t in none-some _ (sym e ∙ asks s l.name t l.kept))

pub not_ended : (s : Session) → asked s ≢ None → is_asking s ≡ true
not_ended s h = ⊎_elim (λ t. t) (λ f. absurd (h (asks_nothing s f))) (true_or_false (is_asking s))

pub ended_refuses : EndedRefuses
unfolding answered failed ended_refusal
ended_refuses s (book b) e = rw (ended s e)
ended_refuses s lookup_failed e = rw (ended s e)

pub refused_book : RefusedBook
unfolding answered ended_refusal
refused_book s b r h e = rw (not_ended s h, e)

-- ending a session keeps its texts
pub closed_keeps : (v r : ℕ) (s : Session) → is_kept (closed_with v r s) ≡ is_kept s
unfolding is_kept kept_name kept_applicant
closed_keeps v r s = refl

pub closed_asks_nothing : (v r : ℕ) (s : Session) → asked (closed_with v r s) ≡ None
unfolding asked is_asking asking decided
closed_asks_nothing v r s = refl

pub closed_stands : (v r : ℕ) (s : Session) → is_kept s ≡ true → standing (closed_with v r s) ≡ verdict_of v r s.up
unfolding standing decided
closed_stands v r s e = rw (closed_keeps v r s, e)

-- while a name is asked for, nothing stands
pub asking_stands_nothing : (s : Session) → s.phase ≡ asking → standing s ≡ None
unfolding standing asking decided
asking_stands_nothing s e = rw e

pub failed_ends : FailedEnds
unfolding failed ended_refusal state verdict_of
failed_ends s h =
    let t = not_ended s h in
    let stands = closed_stands 23 0 s (live s t).keeps in
    rw (t, closed_asks_nothing 23 0 s, stands) (refl, refl, refl)

-- no state is a refusal
abbrev NoRefusal : Option SessionAnswer → Type 0
NoRefusal o = (a : SessionAnswer) → o ≡ Some a → is_refusal a ≡ false

no_refusal : (b : SessionAnswer) → is_refusal b ≡ false → NoRefusal (Some b)
no_refusal b h a e = ap is_refusal (sym (same_Some b a e)) ∙ h

neither_refusal : (t : Bool) (o p : Option SessionAnswer) → NoRefusal o → NoRefusal p → NoRefusal (cond t o p)
neither_refusal true o p h k = h
neither_refusal false o p h k = k

record_no_refusal : (r : ℕ) (b : SessionAnswer) → is_refusal b ≡ false → NoRefusal (of_record r b)
record_no_refusal r b h = neither_refusal (ltb r max_records) _ _ (no_refusal b h) (λ a e. absurd (none-some a e))

verdict_no_refusal : (v r u : ℕ) → NoRefusal (verdict_of v r u)
unfolding verdict_of
verdict_no_refusal v r u =
    neither_refusal (eqb v 0) _ _ (no_refusal _ refl)
    (neither_refusal (eqb v 20) _ _ (record_no_refusal r _ refl)
    (neither_refusal (eqb v 21) _ _ (record_no_refusal r _ refl)
    (neither_refusal (eqb v 22) _ _ (record_no_refusal r _ refl)
    (neither_refusal (eqb v 23) _ _ (no_refusal _ refl) (λ a e. absurd (none-some a e))))))

pub standing_no_refusal : (s : Session) (a : SessionAnswer) → standing s ≡ Some a → is_refusal a ≡ false
unfolding standing
standing_no_refusal s a e = go (eqb s.phase decided && is_kept s) e
  where
    go : (t : Bool) → cond t (verdict_of s.verdict s.rr s.up) None ≡ Some a → is_refusal a ≡ false
    go true e = verdict_no_refusal s.verdict s.rr s.up a e
    go false e = absurd (none-some a e)

pub state_no_refusal : (s : Session) → is_refusal (state s) ≡ false
unfolding state
state_no_refusal s = go (asked s) (standing s) refl
  where
    go : (o : Option Name) (v : Option SessionAnswer) → standing s ≡ v → is_refusal (state_from (length (held s.name)) o v) ≡ false
    go (Some y) v e = refl
    go None (Some a) e = standing_no_refusal s a e
    go None None e = refl

pub state_tells : StateTells
unfolding state
state_tells s = (
  λ h. asking_stands_nothing s (live s (not_ended s h)).in_phase,
  λ v e. rw (no_name v e, e) refl,
  λ e f. rw (e, f) refl,
)
  where
    no_name : (v : SessionAnswer) → standing s ≡ Some v → asked s ≡ None
    no_name v e = asks_nothing s (not_passed (is_asking s) (λ t. none-some v (sym (asking_stands_nothing s (live s t).in_phase) ∙ e)))

pub answered_by_state : AnsweredByState
unfolding answered failed
answered_by_state s (book b) = go (first_refusal (answer_checks s b))
  where
    go : (c : Option Refusal) → is_refusal (answered_or c s b).answer ≡ false → (answered_or c s b).answer ≡ state (answered_or c s b).session
    go None h = refl
    go (Some r) h = absurd (true≢false h)
answered_by_state s lookup_failed = go (ended_refusal s)
  where
    go : (c : Option Refusal) → is_refusal (failed_or c s).answer ≡ false → (failed_or c s).answer ≡ state (failed_or c s).session
    go None h = refl
    go (Some r) h = absurd (true≢false h)

-- what is no refusal
not_refused : {a : SessionAnswer} {r : Refusal} → is_refusal a ≡ false → a ≢ Judged (Refused r)
not_refused h e = false≢true (sym h ∙ ap is_refusal e)

-- row 14 alone, and before the rows of a book
ended_keeps : (s : Session) → Keeps (ended_refusal s ∷ []) (EndedRow s) (14 ∷ [])
unfolding ended_refusal number
ended_keeps s = one_row (⊎_elim while_asking when_ended (true_or_false (is_asking s))) (λ r. only (is_asking s) r) refl
  where
    while_asking : is_asking s ≡ true → (cond (is_asking s) None (Some SessionEnded) ≡ Some SessionEnded) ↔ (asked s ≡ None)
    while_asking e = (λ h. absurd (none-some _ (ap (λ t. cond t None (Some SessionEnded)) (sym e) ∙ h)), λ h. absurd (true≢false (sym e ∙ ended s h)))

    when_ended : is_asking s ≡ false → (cond (is_asking s) None (Some SessionEnded) ≡ Some SessionEnded) ↔ (asked s ≡ None)
    when_ended e = (λ h. asks_nothing s e, λ h. ap (λ t. cond t None (Some SessionEnded)) e)

    only : (t : Bool) (r : Refusal) → cond t None (Some SessionEnded) ≡ Some r → r ≡ SessionEnded
    only true r h = absurd (none-some r h)
    only false r h = sym (same_Some _ _ h)

one_check : (c : Option Refusal) → first_refusal (c ∷ []) ≡ c
one_check None = refl
one_check (Some r) = refl

answer_refused : (c : Option Refusal) (s : Session) (b : List ℕ) (r : Refusal) → ((answered_or c s b).answer ≡ Judged (Refused r)) ↔ (c ≡ Some r)
answer_refused None s b r = (λ e. absurd (not_refused (state_no_refusal _) e), λ e. absurd (none-some r e))
answer_refused (Some q) s b r = (λ e. cc, λ e. cc)

failure_refused : (c : Option Refusal) (s : Session) (r : Refusal) → ((failed_or c s).answer ≡ Judged (Refused r)) ↔ (c ≡ Some r)
failure_refused None s r = (λ e. absurd (not_refused (state_no_refusal _) e), λ e. absurd (none-some r e))
failure_refused (Some q) s r = (λ e. cc, λ e. cc)

pub answer_refusals : AnswerRefusals
unfolding answered failed checked_at
answer_refusals s (book b) o r = Iff.trans (answer_refused _ s b r) (first_row (in_front (ended_keeps s) (book_keeps b o) refl) r)
answer_refusals s lookup_failed o r = Iff.trans (failure_refused _ s r) (rw (one_check (ended_refusal s)) at (first_row (ended_keeps s) r))

pub refused_answer : RefusedAnswer
unfolding answered failed
refused_answer s (book b) r = go (first_refusal (answer_checks s b))
  where
    go : (c : Option Refusal) → (answered_or c s b).answer ≡ Judged (Refused r) → (answered_or c s b).session ≡ s
    go None e = absurd (not_refused (state_no_refusal _) e)
    go (Some q) e = refl
refused_answer s lookup_failed r = go (ended_refusal s)
  where
    go : (c : Option Refusal) → (failed_or c s).answer ≡ Judged (Refused r) → (failed_or c s).session ≡ s
    go None e = absurd (not_refused (state_no_refusal _) e)
    go (Some q) e = refl
