-- The word of an answer to a session: a refusal, which changes nothing, or what the session says afterwards.
use Prim.Native.Nat.{ℕ}
use mathlib.Core.Path.{◌≡◌, refl, ap, sym, ◌∙◌}
use mathlib.Core.Bool.{true, and-eq-true_iff}
use lib.Dec.{leb}
use borrow.Author.Tests.{leb-true, le-leb}
use Rattle.spec_refusal.specs.declared.Refusal.{Refusal}
use Rattle.spec_refusal.specs.Refusal.{number}
use Rattle.spec_octets.proofs.ListLaws.{not_passed}
use Rattle.spec_rule.specs.declared.Judgement.TheVariants.{Permitted, UnknownCritical, NotGranted, TooManyAliases, Refused}
use Rattle.spec_rule.specs.Calls.{judgement_code}
use Rattle.spec_packed.specs.Packed.{number_in}
use Rattle.spec_answers.proofs.DoorWords.{number_range}
use Rattle.spec_session.specs.declared.Session.{Session}
use Rattle.spec_session.specs.declared.SessionAnswer.{SessionAnswer}
use Rattle.spec_session.specs.declared.SessionAnswer.TheVariants.{Asks, Judged, LookupFailed, NoVerdict}
use Rattle.spec_session.specs.Steps.{session_code, Answer, step, is_refusal}
use Rattle.spec_session.proofs.StepLaws.{answered_by_state, refused_answer}
use Rattle.spec_session_words.specs.SessionWords.{packed_session, caa_session_state}
use Rattle.spec_session_words.specs.SessionDoor.{Refuses, is_refusal_word}
use Rattle.spec_session_words.proofs.SessionUnpacks.{FitsAnswer}
use Rattle.spec_session_words.proofs.WordAnswers.{word_refused}
use Rattle.spec_session_words.proofs.StepFits.{step_fits}
use Rattle.spec_session_words.proofs.SessionRows.{word_holds}

-- a word is a refusal exactly where the answer is
pub same_refusal : (x : SessionAnswer) → FitsAnswer x → is_refusal_word (packed_session x) ≡ is_refusal x
unfolding session_code judgement_code
same_refusal (Asks o l) h = rw (word_holds (Asks o l) h).0 refl
same_refusal (Judged Permitted) h = rw (word_holds (Judged Permitted) h).0 refl
same_refusal (Judged (UnknownCritical d)) h = rw (word_holds (Judged (UnknownCritical d)) h).0 refl
same_refusal (Judged (NotGranted d)) h = rw (word_holds (Judged (NotGranted d)) h).0 refl
same_refusal (Judged (TooManyAliases d)) h = rw (word_holds (Judged (TooManyAliases d)) h).0 refl
same_refusal (Judged (Refused r)) h =
    let (low, high) = number_range r in
    rw ((word_holds (Judged (Refused r)) h).0, le-leb 1 (number r) low, le-leb (number r) 19 high) refl
same_refusal LookupFailed h = rw (word_holds LookupFailed h).0 refl
same_refusal NoVerdict h = rw (word_holds NoVerdict h).0 refl

module _ (x : SessionAnswer) (fits : FitsAnswer x) where
  pub refusal_told : is_refusal x ≡ true → Refuses (packed_session x)
  refusal_told e =
      let (low, high) = (and-eq-true_iff (leb 1 (number_in (packed_session x))) (leb (number_in (packed_session x)) 19)).0 (same_refusal x fits ∙ e) in
      (leb-true _ _ low, leb-true _ _ high)

  pub refusal_meant : Refuses (packed_session x) → (r : Refusal) × (x ≡ Judged (Refused r)) × (number r ≡ number_in (packed_session x))
  refusal_meant (low, high) = let (r, e, n, p) = word_refused _ _ _ _ x (word_holds x fits) low high in (r, e, n)

module _ (s : Session) (a : Answer) where
  abbrev w : ℕ
  w = packed_session (step s a).answer

  pub refused_unchanged : Refuses w → (step s a).session ≡ s
  refused_unchanged h = let (r, e, n) = refusal_meant (step s a).answer (step_fits s a) h in refused_answer s a r e

  pub state_after : (Refuses w → ⊥) → caa_session_state (step s a).session ≡ w
  state_after h =
      ap packed_session (sym (answered_by_state s a (not_passed (is_refusal (step s a).answer) (λ e. h (refusal_told (step s a).answer (step_fits s a) e)))))
