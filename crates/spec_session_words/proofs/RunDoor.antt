-- A session from a good opening on, by the words of its calls.
use Rattle.std.proofs.lemmas.Option.{none-some}
use Rattle.std.specs.Prelude.{Option, None, Some}
use Prim.Native.Nat.{ℕ}
use native.Mathlib.Omega.{arith}
use mathlib.Core.Path.{◌≡◌, refl, ap, sym, ◌∙◌}
use mathlib.Core.Logic.{◌≢◌, ⊎_elim}
use mathlib.Core.List.Memᴰ
use mathlib.Core.List.{List, [], ◌∷◌, Memᴰ}
use Rattle.spec_refusal.specs.declared.Refusal.{Refusal}
use Rattle.spec_octets.specs.Lists.{All}
use Rattle.spec_octets.specs.Octets.{Octets}
use Rattle.spec_name.specs.Names.{Name}
use Rattle.spec_applicant.specs.Applicant.{Applicant}
use Rattle.spec_record.specs.Records.{book_refusal}
use Rattle.spec_rule.specs.declared.Judgement.{Judgement}
use Rattle.spec_rule.specs.declared.Judgement.TheVariants.{Permitted, UnknownCritical, NotGranted, TooManyAliases, Refused}
use Rattle.spec_rule.specs.Calls.{first_refusal, judge, judgement_code}
use Rattle.spec_rule.specs.Theorems.{renumbered_verdict}
use Rattle.spec_rule.proofs.CheckOrder.{first_row}
use Rattle.spec_rule.proofs.RefusalLaws.{book_keeps}
use Rattle.spec_packed.specs.Packed.{number_in, field_a, field_c}
use Rattle.spec_answers.specs.Answers.{value_of}
use Rattle.spec_answers.specs.Door.{caa_judge_for, BookTable, NoneHolds}
use Rattle.spec_answers.proofs.DoorRows.{book_rows, never_refuses}
use Rattle.spec_answers.proofs.JudgementUnpacks.{judgement_unpacks}
use Rattle.spec_session.specs.declared.Session.{Session}
use Rattle.spec_session.specs.declared.SessionAnswer.{SessionAnswer}
use Rattle.spec_session.specs.declared.SessionAnswer.TheVariants.{Judged, NoVerdict}
use Rattle.spec_session.specs.Sessions.{standing, state}
use Rattle.spec_session.specs.Steps.{opened, session_code, Answer, book, lookup_failed, step, after, accepted}
use Rattle.spec_session.specs.Meaning.{GoodOpening, Agrees}
use Rattle.spec_session.specs.Theorems.{session_after, accepted_of}
use Rattle.spec_session.proofs.StepLaws.{state_tells}
use Rattle.spec_session.proofs.Runs.{asked_in_turn, asks_or_stands, verdict_stands}
use Rattle.spec_session.proofs.WholeBook.{as_the_whole_book}
use Rattle.spec_session_words.specs.SessionWords.{caa_session_state}
use Rattle.spec_session_words.specs.SessionDoor.{after_calls, accepted_calls, RunWord, CaaSessionRun}
use Rattle.spec_session_words.proofs.WordAnswers.{word_41}
use Rattle.spec_session_words.proofs.ToldNames.{state_word}
use Rattle.spec_session_words.proofs.StepFits.{step_fits}
use Rattle.spec_session_words.proofs.StepWords.{same_refusal}
use Rattle.spec_session_words.proofs.StateDoor.{asked_exactly, saying, name_told, number_said}

-- the calls make the steps
calls_step : (s : Session) (given : List Answer) → after_calls s given ≡ after s given
calls_step s [] = refl
calls_step s (book b ∷ more) = calls_step (step s (book b)).session more
calls_step s (lookup_failed ∷ more) = calls_step (step s lookup_failed).session more

calls_accept : (s : Session) (given : List Answer) → accepted_calls s given ≡ accepted s given
calls_accept s [] = refl
calls_accept s (book b ∷ more) =
    rw (same_refusal (step s (book b)).answer (step_fits s (book b)), calls_accept (step s (book b)).session more) refl
calls_accept s (lookup_failed ∷ more) =
    rw (same_refusal (step s lookup_failed).answer (step_fits s lookup_failed), calls_accept (step s lookup_failed).session more) refl

-- all but the number of the record
abbrev Same : Judgement → Judgement → Type 0
Same j k =
    ((judgement_code j).number ≡ (judgement_code k).number) × (value_of (judgement_code j) 0 ≡ value_of (judgement_code k) 0)
    × (value_of (judgement_code j) 2 ≡ value_of (judgement_code k) 2)

renumbered_same : (f : ℕ → ℕ) (j : Judgement) → Same j (renumbered_verdict f j)
unfolding judgement_code
renumbered_same f Permitted = (refl, refl, refl)
renumbered_same f (UnknownCritical d) = (refl, refl, refl)
renumbered_same f (NotGranted d) = (refl, refl, refl)
renumbered_same f (TooManyAliases d) = (refl, refl, refl)
renumbered_same f (Refused r) = (refl, refl, refl)

same_verdict : (j k : Judgement) → renumbered_verdict (λ r. 0) j ≡ renumbered_verdict (λ r. 0) k → Same j k
same_verdict j k e =
    let (n, a, c) = renumbered_same (λ r. 0) j in
    let (m, b, d) = renumbered_same (λ r. 0) k in (
      n ∙ ap (λ i. (judgement_code i).number) e ∙ sym m,
      a ∙ ap (λ i. value_of (judgement_code i) 0) e ∙ sym b,
      c ∙ ap (λ i. value_of (judgement_code i) 2) e ∙ sym d,
    )

-- a book for which no row holds is accepted
book_accepted : (whole : List ℕ) → Octets whole → NoneHolds (BookTable whole) → book_refusal whole ≡ None
book_accepted whole o h = go (book_refusal whole) refl
  where
    never : (r : Refusal) → first_refusal (book_refusal whole ∷ []) ≡ Some r → ⊥
    never = never_refuses (book_rows whole) (λ r. first_refusal (book_refusal whole ∷ []) ≡ Some r) (first_row (book_keeps whole o)) h

    go : (c : Option Refusal) → book_refusal whole ≡ c → book_refusal whole ≡ None
    go None e = e
    go (Some r) e = absurd (never r (rw e refl))

module _ (request issuer : List ℕ) (who : Applicant) (n : Name) (g : GoodOpening request issuer who n) (given : List Answer) where
  abbrev last : Session
  last = session_after request issuer who given

  abbrev answers : List (Option Name × Answer)
  answers = accepted_of request issuer who given

  abbrev w : ℕ
  w = caa_session_state last

  -- a verdict stands, where no name is asked for
  ended : number_in w ≢ 40 → (v : SessionAnswer) × (standing last ≡ Some v)
  ended h = ⊎_elim
      (λ (none-stands, e, below). absurd (h ((asked_exactly last _).0 e).0))
      (λ (stands, e). there (standing last) refl stands)
      (asks_or_stands request issuer who n g given)
    where
      there : (o : Option SessionAnswer) → standing last ≡ o → standing last ≢ None → (v : SessionAnswer) × (standing last ≡ Some v)
      there None e stands = absurd (stands e)
      there (Some v) e stands = (v, e)

  numbered : Memᴰ (number_in w) (40 ∷ 0 ∷ 20 ∷ 21 ∷ 22 ∷ 23 ∷ [])
  numbered = ⊎_elim (λ e. absurd (never_41 e)) (λ m. m) (Memᴰ.cases_cons (number_said last))
    where
      never_41 : number_in w ≡ 41 → ⊥
      never_41 e =
          let (nothing, none-stands) = (saying last NoVerdict (word_41 _ _ _ _ (state last) (state_word last) e)).0 in
          let (v, f) = ended (λ z. omega arith) in
          none-some v (sym none-stands ∙ f)

  as_whole :
      (whole : List ℕ) → Octets whole → NoneHolds (BookTable whole) → All (Agrees whole) answers → number_in w ≢ 40 →
      (number_in w ≡ number_in (caa_judge_for request issuer who whole)) × (field_a w ≡ field_a (caa_judge_for request issuer who whole))
      × (field_c w ≡ field_c (caa_judge_for request issuer who whole))
  unfolding session_code
  as_whole whole o no_row all h =
      let (v, e) = ended h in
      let (j, is, same) = as_the_whole_book request issuer who n g given whole (book_accepted whole o no_row) all v e in
      let (m, a, b, c) = (saying last (Judged j) ((state_tells last).1 v e ∙ is)).1 in
      let (m₀, a₀, b₀, c₀) = judgement_unpacks request issuer who whole in
      let (same_number, same-a, same-c) = same_verdict j (judge request issuer who whole) same in
      (m ∙ same_number ∙ sym m₀, a ∙ same-a ∙ sym a₀, c ∙ same-c ∙ sym c₀)

  pub run_says : RunWord request issuer who n answers last w
  run_says = record {
    as_many_as_labels = (verdict_stands request issuer who n g given).0;
    then_a_verdict = λ e f. stands_and_asks ((verdict_stands request issuer who n g given).1 e) f;
    asks_in_turn = λ e. let h = name_told last e in h.asks_next ∙ ap Some ((asked_in_turn request issuer who n g given).1 h.next h.asks_next);
    numbers = numbered;
    as_the_whole_book = as_whole;
  }
    where
      stands_and_asks : standing last ≢ None → number_in w ≡ 40 → ⊥
      stands_and_asks h e =
          let k = name_told last e in
          h ((state_tells last).0 (λ z. none-some k.next (sym z ∙ k.asks_next)))

pub caa_session_run : CaaSessionRun
caa_session_run request issuer who n g given =
    rw (calls_accept (opened request issuer who).session given, calls_step (opened request issuer who).session given)
    (run_says request issuer who n g given)
