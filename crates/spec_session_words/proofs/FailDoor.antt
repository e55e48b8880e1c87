-- The word of caa_session_fail: 14, or 23.
use Rattle.std.proofs.lemmas.Option.{none-some}
use Rattle.std.specs.Prelude.{None, Some}
use Prim.Native.Nat.{ℕ}
use native.Mathlib.Omega.{arith}
use mathlib.Core.Path.{◌≡◌, refl, ap, sym, ◌∙◌}
use mathlib.Core.Logic.{◌↔◌, ◌≢◌, ◌⊎◌, inl, inr, ⊎_elim}
use mathlib.Core.Bool.{true, false}
use Rattle.spec_refusal.specs.declared.Refusal.TheVariants.{SessionEnded}
use Rattle.spec_refusal.specs.Refusal.{number, place}
use Rattle.spec_octets.specs.Lists.{all_nil}
use Rattle.spec_octets.proofs.ListLaws.{true_or_false}
use Rattle.spec_name.specs.Names.{Name}
use Rattle.spec_rule.specs.declared.Judgement.TheVariants.{Refused}
use Rattle.spec_rule.specs.Calls.{judgement_code}
use Rattle.spec_packed.specs.Packed.{number_in, field_a, field_b, field_c}
use Rattle.spec_answers.proofs.DoorRows.{one_of}
use Rattle.spec_session.specs.declared.Session.{Session}
use Rattle.spec_session.specs.declared.SessionAnswer.{SessionAnswer}
use Rattle.spec_session.specs.declared.SessionAnswer.TheVariants.{Judged, LookupFailed}
use Rattle.spec_session.specs.Sessions.{is_asking, asked}
use Rattle.spec_session.specs.Steps.{session_code, ended_refusal, failed, lookup_failed}
use Rattle.spec_session.proofs.StepLaws.{asks_nothing, ended_refuses, failed_ends, answer_refusals}
use Rattle.spec_session_words.specs.SessionWords.{caa_session_fail}
use Rattle.spec_session_words.specs.SessionDoor.{SameTexts, FailWord, CaaSessionFail}
use Rattle.spec_session_words.proofs.States
use Rattle.spec_session_words.proofs.WordAnswers.{HoldsAnswer, of_session}
use Rattle.spec_session_words.proofs.StepFits.{step_fits}
use Rattle.spec_session_words.proofs.SessionRows.{ended_rows, word_holds, refused_word}
use Rattle.spec_session_words.proofs.StepWords.{refused_unchanged, state_after}

module _ (s : Session) where
  abbrev w : ℕ
  w = (caa_session_fail s).word

  abbrev Word : SessionAnswer → Type 0
  Word x = HoldsAnswer (number_in w) (field_a w) (field_b w) (field_c w) x

  -- the session asks for a name and ends, or it is refused
  abbrev Ends : Type 0
  Ends = ((y : Name) × (asked s ≡ Some y)) × Word LookupFailed × SameTexts (failed s).session s

  abbrev Ended : Type 0
  Ended = (asked s ≡ None) × Word (Judged (Refused SessionEnded)) × SameTexts (failed s).session s

  holds : Word (failed s).answer
  holds = word_holds (failed s).answer (step_fits s lookup_failed)

  ways : Ends ⊎ Ended
  unfolding failed ended_refusal
  ways = ⊎_elim (λ t. inl (ends t)) (λ t. inr (ended t)) (true_or_false (is_asking s))
    where
      ends : is_asking s ≡ true → Ends
      ends t =
          let h = States.asking s t in
          let some_name : asked s ≢ None = λ z. none-some h.next (sym z ∙ h.asks_next) in
          ((h.next, h.asks_next), of_session _ _ _ _ (failed_ends s some_name).0 holds, rw t (refl, refl, refl, refl))

      ended : is_asking s ≡ false → Ended
      ended t =
          let nothing = asks_nothing s t in
          let step_is = ended_refuses s lookup_failed nothing in
          (nothing, of_session _ _ _ _ (ap (λ r. r.answer) step_is) holds, rw t (refl, refl, refl, refl))

  failed_exactly : (number_in w ≡ 23) ↔ ((y : Name) × (asked s ≡ Some y))
  unfolding session_code judgement_code number
  failed_exactly = (λ e. there ways e, λ named. back ways named)
    where
      there : Ends ⊎ Ended → number_in w ≡ 23 → (y : Name) × (asked s ≡ Some y)
      there (inl h) e = h.0
      there (inr h) e = let z : ◌≡◌ {A = ℕ} 14 23 = sym h.1.0 ∙ e in absurd (omega arith)

      back : Ends ⊎ Ended → (y : Name) × (asked s ≡ Some y) → number_in w ≡ 23
      back (inl h) named = h.1.0
      back (inr h) (y, e) = absurd (none-some y (sym h.0 ∙ e))

  pub fail_says : FailWord s (caa_session_fail s).word (caa_session_fail s).session
  unfolding session_code judgement_code number place
  fail_says = record {
    refused_exactly = refused_word (failed s).answer (step_fits s lookup_failed) (ended_rows s) (answer_refusals s lookup_failed all_nil);
    refused_unchanged = refused_unchanged s lookup_failed;
    failed_exactly = failed_exactly;
    state_after = λ e. state_after s lookup_failed (λ h. omega (arith, h.1));
    texts_stay = ⊎_elim (λ h. h.2) (λ h. h.2) ways;
    numbers = ⊎_elim (λ h. rw h.1.0 (one_of 23 _ refl)) (λ h. rw h.1.0 (one_of 14 _ refl)) ways;
    a_unused = ⊎_elim (λ h. h.1.1) (λ h. h.1.1) ways;
    b_unused = ⊎_elim (λ h. h.1.2) (λ h. h.1.2) ways;
    c_unused = ⊎_elim (λ h. h.1.3) (λ h. h.1.3) ways;
  }

pub caa_session_fail_lem : CaaSessionFail
caa_session_fail_lem = fail_says
