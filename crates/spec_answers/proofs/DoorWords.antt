-- Which answer a word stands for, by its number n and its fields a, b and c.
use Rattle.std.specs.Prelude.{Result, Ok, Err}
use Prim.Native.Nat.{ℕ, ◌≤◌}
use native.Mathlib.Omega.{arith}
use mathlib.Core.Path.{◌≡◌, refl}
use Rattle.spec_refusal.specs.declared.Refusal.{Refusal}
use Rattle.spec_refusal.specs.declared.Refusal.TheVariants.{RequestTooLong, BadName, TooManyNames, BadIssuer, BookTooLong, BadRecord, TooManyRecords, AliasConflict, NoRoom, BadLine, LineTooLong, BadData, SessionEnded, BadAccountOrMethod}
use Rattle.spec_refusal.specs.Refusal.{number, place}
use Rattle.spec_rule.specs.declared.Judgement.{Judgement}
use Rattle.spec_rule.specs.declared.Judgement.TheVariants.{Permitted, UnknownCritical, NotGranted, TooManyAliases, Refused}
use Rattle.spec_rule.specs.declared.PermittedIssuers.{PermittedIssuers}
use Rattle.spec_rule.specs.declared.PermittedIssuers.TheVariants.{Anyone, Listed, Refused as ListRefused}
use Rattle.spec_rule.specs.Verdicts.{denial}
use Rattle.spec_rule.specs.Calls.{AnswerCode, judgement_code, permitted_issuers_code}
use Rattle.spec_answers.specs.Answers.{value_of}
use Rattle.spec_answers.specs.LineAnswers.{line_code}

pub number_range : (r : Refusal) → (1 ≤ number r) × (number r ≤ 19)
unfolding number
number_range RequestTooLong = omega arith
number_range (BadName k) = omega arith
number_range TooManyNames = omega arith
number_range BadIssuer = omega arith
number_range BookTooLong = omega arith
number_range (BadRecord r) = omega arith
number_range TooManyRecords = omega arith
number_range (AliasConflict r) = omega arith
number_range (NoRoom n) = omega arith
number_range BadLine = omega arith
number_range LineTooLong = omega arith
number_range BadData = omega arith
number_range SessionEnded = omega arith
number_range BadAccountOrMethod = omega arith

module _ (n a b c : ℕ) where
  -- the word's number and fields are those of the answer
  abbrev pub Holds : AnswerCode → Type 0
  Holds t = (n ≡ t.number) × (a ≡ value_of t 0) × (b ≡ value_of t 1) × (c ≡ value_of t 2)

  pub of_answer : {A : Type 0} (code : A → AnswerCode) {x y : A} → x ≡ y → Holds (code x) → Holds (code y)
  of_answer code e h = rw e at h

  pub judge_refused : (j : Judgement) → Holds (judgement_code j) → 1 ≤ n → n ≤ 19 → (r : Refusal) × (j ≡ Refused r) × (number r ≡ n) × (place r ≡ a)
  unfolding judgement_code
  judge_refused Permitted h low high = absurd (omega arith)
  judge_refused (UnknownCritical d) h low high = absurd (omega arith)
  judge_refused (NotGranted d) h low high = absurd (omega arith)
  judge_refused (TooManyAliases d) h low high = absurd (omega arith)
  judge_refused (Refused r) h low high = (r, refl, omega arith, omega arith)

  pub judge_0 : (j : Judgement) → Holds (judgement_code j) → n ≡ 0 → j ≡ Permitted
  unfolding judgement_code
  judge_0 Permitted h e = refl
  judge_0 (UnknownCritical d) h e = absurd (omega arith)
  judge_0 (NotGranted d) h e = absurd (omega arith)
  judge_0 (TooManyAliases d) h e = absurd (omega arith)
  judge_0 (Refused r) h e = absurd (omega (arith, number_range r))

  pub judge_20 : (j : Judgement) → Holds (judgement_code j) → n ≡ 20 → j ≡ UnknownCritical (denial a b c)
  unfolding judgement_code
  judge_20 Permitted h e = absurd (omega arith)
  judge_20 (UnknownCritical d) h e = rw (h.1, h.2, h.3)
  judge_20 (NotGranted d) h e = absurd (omega arith)
  judge_20 (TooManyAliases d) h e = absurd (omega arith)
  judge_20 (Refused r) h e = absurd (omega (arith, number_range r))

  pub judge_21 : (j : Judgement) → Holds (judgement_code j) → n ≡ 21 → j ≡ NotGranted (denial a b c)
  unfolding judgement_code
  judge_21 Permitted h e = absurd (omega arith)
  judge_21 (UnknownCritical d) h e = absurd (omega arith)
  judge_21 (NotGranted d) h e = rw (h.1, h.2, h.3)
  judge_21 (TooManyAliases d) h e = absurd (omega arith)
  judge_21 (Refused r) h e = absurd (omega (arith, number_range r))

  pub judge_22 : (j : Judgement) → Holds (judgement_code j) → n ≡ 22 → j ≡ TooManyAliases (denial a b c)
  unfolding judgement_code
  judge_22 Permitted h e = absurd (omega arith)
  judge_22 (UnknownCritical d) h e = absurd (omega arith)
  judge_22 (NotGranted d) h e = absurd (omega arith)
  judge_22 (TooManyAliases d) h e = rw (h.1, h.2, h.3)
  judge_22 (Refused r) h e = absurd (omega (arith, number_range r))

  -- the fields that it has no use for
  pub judge_b : (j : Judgement) → Holds (judgement_code j) → n ≤ 19 → b ≡ 0
  unfolding judgement_code
  judge_b Permitted h less = h.2
  judge_b (UnknownCritical d) h less = absurd (omega arith)
  judge_b (NotGranted d) h less = absurd (omega arith)
  judge_b (TooManyAliases d) h less = absurd (omega arith)
  judge_b (Refused r) h less = h.2

  pub judge_c : (j : Judgement) → Holds (judgement_code j) → n ≤ 19 → c ≡ 0
  unfolding judgement_code
  judge_c Permitted h less = h.3
  judge_c (UnknownCritical d) h less = absurd (omega arith)
  judge_c (NotGranted d) h less = absurd (omega arith)
  judge_c (TooManyAliases d) h less = absurd (omega arith)
  judge_c (Refused r) h less = h.3

  pub judge_a : (j : Judgement) → Holds (judgement_code j) → n ≡ 0 → a ≡ 0
  unfolding judgement_code
  judge_a j h e = (of_answer judgement_code (judge_0 j h e) h).1

  pub list_refused : (x : PermittedIssuers) → Holds (permitted_issuers_code x) → n ≤ 19 →
      (r : Refusal) × (x ≡ ListRefused r) × (number r ≡ n) × (place r ≡ a)
  unfolding permitted_issuers_code
  list_refused Anyone h high = absurd (omega arith)
  list_refused (Listed count octets) h high = absurd (omega arith)
  list_refused (ListRefused r) h high = (r, refl, omega arith, omega arith)

  pub list_30 : (x : PermittedIssuers) → Holds (permitted_issuers_code x) → n ≡ 30 → x ≡ Anyone
  unfolding permitted_issuers_code
  list_30 Anyone h e = refl
  list_30 (Listed count octets) h e = absurd (omega arith)
  list_30 (ListRefused r) h e = absurd (omega (arith, number_range r))

  pub list_31 : (x : PermittedIssuers) → Holds (permitted_issuers_code x) → n ≡ 31 → x ≡ Listed b a
  unfolding permitted_issuers_code
  list_31 Anyone h e = absurd (omega arith)
  list_31 (Listed count octets) h e = rw (h.1, h.2)
  list_31 (ListRefused r) h e = absurd (omega (arith, number_range r))

  pub list_b : (x : PermittedIssuers) → Holds (permitted_issuers_code x) → n ≤ 30 → b ≡ 0
  unfolding permitted_issuers_code
  list_b Anyone h less = h.2
  list_b (Listed count octets) h less = absurd (omega arith)
  list_b (ListRefused r) h less = h.2

  pub list_c : (x : PermittedIssuers) → Holds (permitted_issuers_code x) → c ≡ 0
  unfolding permitted_issuers_code
  list_c Anyone h = h.3
  list_c (Listed count octets) h = h.3
  list_c (ListRefused r) h = h.3

  pub list_a : (x : PermittedIssuers) → Holds (permitted_issuers_code x) → n ≡ 30 → a ≡ 0
  unfolding permitted_issuers_code
  list_a x h e = (of_answer permitted_issuers_code (list_30 x h e) h).1

  pub line_refused : (m : Result ℕ Refusal) → Holds (line_code m) → 1 ≤ n → (r : Refusal) × (m ≡ Err r) × (number r ≡ n) × (place r ≡ a)
  unfolding line_code
  line_refused (Ok k) h low = absurd (omega arith)
  line_refused (Err r) h low = (r, refl, omega arith, omega arith)

  pub line_b : (m : Result ℕ Refusal) → Holds (line_code m) → b ≡ 0
  unfolding line_code
  line_b (Ok k) h = h.2
  line_b (Err r) h = h.2

  pub line_c : (m : Result ℕ Refusal) → Holds (line_code m) → c ≡ 0
  unfolding line_code
  line_c (Ok k) h = h.3
  line_c (Err r) h = h.3

  pub line_0 : (m : Result ℕ Refusal) → Holds (line_code m) → n ≡ 0 → m ≡ Ok a
  unfolding line_code
  line_0 (Ok k) h e = rw h.1
  line_0 (Err r) h e = absurd (omega (arith, number_range r))
