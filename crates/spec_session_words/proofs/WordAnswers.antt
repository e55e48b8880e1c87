-- Which answer of a session a word stands for, by its number n and its fields a, b and c.
use Prim.Native.Nat.{ℕ, ◌≤◌}
use native.Mathlib.Omega.{arith}
use mathlib.Core.Path.{◌≡◌, refl, ap, ◌∙◌}
use Rattle.spec_refusal.specs.declared.Refusal.{Refusal}
use Rattle.spec_refusal.specs.Refusal.{number, place}
use Rattle.spec_rule.specs.declared.Judgement.{Judgement}
use Rattle.spec_rule.specs.declared.Judgement.TheVariants.{Permitted, UnknownCritical, NotGranted, TooManyAliases, Refused}
use Rattle.spec_rule.specs.Verdicts.{denial}
use Rattle.spec_rule.specs.Calls.{judgement_code}
use Rattle.spec_answers.proofs.JudgementUnpacks.{up_small}
use Rattle.spec_answers.proofs.DoorWords.{number_range, Holds, of_answer, judge_refused, judge_0, judge_20, judge_21, judge_22}
use Rattle.spec_session.specs.declared.SessionAnswer.{SessionAnswer}
use Rattle.spec_session.specs.declared.SessionAnswer.TheVariants.{Asks, Judged, LookupFailed, NoVerdict}
use Rattle.spec_session.specs.Steps.{session_code}
use Rattle.spec_session_words.proofs.SessionUnpacks.{FitsAnswer}

judged_low : (j : Judgement) → (judgement_code j).number ≤ 22
unfolding judgement_code
judged_low Permitted = omega arith
judged_low (UnknownCritical d) = omega arith
judged_low (NotGranted d) = omega arith
judged_low (TooManyAliases d) = omega arith
judged_low (Refused r) = omega (arith, number_range r)

module _ (n a b c : ℕ) where
  abbrev pub HoldsAnswer : SessionAnswer → Type 0
  HoldsAnswer x = Holds n a b c (session_code x)

  pub of_session : {x y : SessionAnswer} → x ≡ y → HoldsAnswer x → HoldsAnswer y
  of_session e h = of_answer n a b c session_code e h

  -- the labels taken off
  pub c_small : (x : SessionAnswer) → FitsAnswer x → HoldsAnswer x → c ≤ 126
  unfolding session_code
  c_small (Asks o l) fits h = omega (arith, h.3)
  c_small (Judged j) fits h = omega (arith, h.3, up_small j fits)
  c_small LookupFailed fits h = omega (arith, h.3)
  c_small NoVerdict fits h = omega (arith, h.3)

  -- a verdict or a refusal
  pub judged : (x : SessionAnswer) → HoldsAnswer x → n ≤ 22 → (j : Judgement) × (x ≡ Judged j) × Holds n a b c (judgement_code j)
  unfolding session_code
  judged (Asks o l) h low = absurd (omega arith)
  judged (Judged j) h low = (j, refl, h)
  judged LookupFailed h low = absurd (omega arith)
  judged NoVerdict h low = absurd (omega arith)

  pub word_refused : (x : SessionAnswer) → HoldsAnswer x → 1 ≤ n → n ≤ 19 → (r : Refusal) × (x ≡ Judged (Refused r)) × (number r ≡ n) × (place r ≡ a)
  word_refused x h low high =
      let (j, e, k) = judged x h (omega arith) in
      let (r, f, same_number, same_place) = judge_refused n a b c j k low high in
      (r, e ∙ ap Judged f, same_number, same_place)

  pub word_0 : (x : SessionAnswer) → HoldsAnswer x → n ≡ 0 → x ≡ Judged Permitted
  word_0 x h e = let (j, f, k) = judged x h (omega arith) in f ∙ ap Judged (judge_0 n a b c j k e)

  pub word_20 : (x : SessionAnswer) → HoldsAnswer x → n ≡ 20 → x ≡ Judged (UnknownCritical (denial a b c))
  word_20 x h e = let (j, f, k) = judged x h (omega arith) in f ∙ ap Judged (judge_20 n a b c j k e)

  pub word_21 : (x : SessionAnswer) → HoldsAnswer x → n ≡ 21 → x ≡ Judged (NotGranted (denial a b c))
  word_21 x h e = let (j, f, k) = judged x h (omega arith) in f ∙ ap Judged (judge_21 n a b c j k e)

  pub word_22 : (x : SessionAnswer) → HoldsAnswer x → n ≡ 22 → x ≡ Judged (TooManyAliases (denial a b c))
  word_22 x h e = let (j, f, k) = judged x h (omega arith) in f ∙ ap Judged (judge_22 n a b c j k e)

  pub word_23 : (x : SessionAnswer) → HoldsAnswer x → n ≡ 23 → x ≡ LookupFailed
  unfolding session_code
  word_23 (Asks o l) h e = absurd (omega arith)
  word_23 (Judged j) h e = absurd (omega (arith, judged_low j))
  word_23 LookupFailed h e = refl
  word_23 NoVerdict h e = absurd (omega arith)

  pub word_40 : (x : SessionAnswer) → HoldsAnswer x → n ≡ 40 → x ≡ Asks b a
  unfolding session_code
  word_40 (Asks o l) h e = rw (h.1, h.2)
  word_40 (Judged j) h e = absurd (omega (arith, judged_low j))
  word_40 LookupFailed h e = absurd (omega arith)
  word_40 NoVerdict h e = absurd (omega arith)

  pub word_41 : (x : SessionAnswer) → HoldsAnswer x → n ≡ 41 → x ≡ NoVerdict
  unfolding session_code
  word_41 (Asks o l) h e = absurd (omega arith)
  word_41 (Judged j) h e = absurd (omega (arith, judged_low j))
  word_41 LookupFailed h e = absurd (omega arith)
  word_41 NoVerdict h e = refl
