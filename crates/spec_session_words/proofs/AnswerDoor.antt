-- The word of caa_session_answer: the first row of the table that holds, the next name, or the verdict.
use Rattle.std.specs.Prelude.{Some}
use Prim.Native.Nat.{ℕ, suc, ◌+◌, ◌-◌, ◌<◌}
use native.Mathlib.Omega.{arith}
use mathlib.Core.Path.{◌≡◌, refl, ap, sym, ◌∙◌}
use mathlib.Core.Logic.{◌↔◌, ◌≢◌, ◌⊎◌, inl, inr, ⊎_elim}
use mathlib.Core.Bool.{false, true≢false, false≢true}
use mathlib.Core.List.{List, [], ◌∷◌, Memᴰ}
use lib.ListN.{length, drop, length-drop}
use lib.Seq.{drop-drop}
use Rattle.spec_refusal.specs.declared.Refusal.{Refusal}
use Rattle.spec_refusal.specs.Refusal.{number}
use Rattle.spec_octets.specs.Lists.{First}
use Rattle.spec_octets.specs.Octets.{Octets}
use Rattle.spec_name.specs.Names.{Name, wire}
use Rattle.spec_request.specs.Request.{is_wildcard, base}
use Rattle.spec_rule.specs.declared.Judgement.{Judgement}
use Rattle.spec_rule.specs.declared.Denial.{Denial}
use Rattle.spec_rule.specs.declared.Judgement.TheVariants.{Permitted, UnknownCritical, NotGranted, TooManyAliases, Refused}
use Rattle.spec_rule.specs.RelevantSet.{CaaRecord, Lookup, empty, found, endless}
use Rattle.spec_rule.specs.Verdicts.{denial}
use Rattle.spec_rule.specs.Meaning.{UnknownCriticalRecord, Governs}
use Rattle.spec_rule.specs.Calls.{judgement_code}
use Rattle.spec_packed.specs.Packed.{number_in, field_a, field_b, field_c}
use Rattle.spec_answers.specs.Door.{row_5, row_6, row_7, row_12, NoneHolds}
use Rattle.spec_answers.proofs.DoorRows.{one_of, none_holds, never_refuses}
use Rattle.spec_answers.proofs.DoorWords.{judge_a, judge_b, judge_c}
use Rattle.spec_session.specs.declared.Session.{Session}
use Rattle.spec_session.specs.declared.SessionAnswer.{SessionAnswer}
use Rattle.spec_session.specs.declared.SessionAnswer.TheVariants.{Asks, Judged}
use Rattle.spec_session.specs.Sessions.{held, kept_name, kept_applicant, asked, state}
use Rattle.spec_session.specs.Steps.{one_up, concluded, answered, book, is_refusal, session_code}
use Rattle.spec_session.proofs.Kept.{one_name_read}
use Rattle.spec_session.proofs.StepLaws.{answer_refusals}
use Rattle.spec_session.proofs.Trails.{one_up_course, asks_next}
use Rattle.spec_session_words.specs.SessionWords.{packed_session, caa_session_answer, caa_session_state}
use Rattle.spec_session_words.specs.SessionDoor.{row_14, AnswerTable, TellsName, WithoutLabels, SameTexts, Accepts, Finds, NoneCritical, Granted, PermittedBy, AnswerWord, CaaSessionAnswer}
use Rattle.spec_session_words.proofs.States
use Rattle.spec_session_words.proofs.States.{Asking}
use Rattle.spec_session_words.proofs.WordAnswers.{HoldsAnswer, of_session, c_small, judged, word_0, word_20, word_21, word_22, word_40}
use Rattle.spec_session_words.proofs.ToldNames.{held_octets}
use Rattle.spec_session_words.proofs.StepFits.{step_fits}
use Rattle.spec_session_words.proofs.SessionRows.{answer_rows, word_holds, refused_word}
use Rattle.spec_session_words.proofs.StepWords
use Rattle.spec_session_words.proofs.StateDoor.{next_is, kept_is, asked_above, asked_exactly}
use Rattle.spec_session_words.proofs.Rulings.{Ruled, ruled_exactly}
use Rattle.spec_session_words.proofs.AnswerWays.{had, rule, Climbs, Ways, course, ways}

-- the numbers of the rows
row_number : {s : Session} {b : List ℕ} {n p : ℕ} → AnswerTable s b n p → Memᴰ n (14 ∷ 5 ∷ 6 ∷ 7 ∷ 12 ∷ 40 ∷ 0 ∷ 20 ∷ 21 ∷ 22 ∷ [])
row_number (inl (row_14 h)) = one_of 14 _ refl
row_number (inr (row_5 h)) = one_of 5 _ refl
row_number (inr (row_6 k h)) = one_of 6 _ refl
row_number (inr (row_7 h)) = one_of 7 _ refl
row_number (inr (row_12 k h)) = one_of 12 _ refl

-- a session with the texts of another
same_texts : (s t u : Session) → t ≡ u → SameTexts u s → SameTexts t s
same_texts s t u e h = rw e h

-- what is refused, what asks and what is decided are three things
judged_refused : {j : Judgement} {r : Refusal} → is_refusal (Judged j) ≡ false → Judged j ≡ Judged (Refused r) → ⊥
judged_refused h e = false≢true (sym h ∙ ap is_refusal e)

asks_judged : {o l : ℕ} {j : Judgement} → Asks o l ≡ Judged j → ⊥
asks_judged e = let z : ◌≡◌ {A = ℕ} 0 1 = cc in omega arith

module _ (s : Session) (b : List ℕ) where
  abbrev after : Session
  after = (answered s b).session

  abbrev w : ℕ
  w = (caa_session_answer s b).word

  abbrev Word : SessionAnswer → Type 0
  Word a = HoldsAnswer (number_in w) (field_a w) (field_b w) (field_c w) a

  holds : Word (answered s b).answer
  holds = word_holds (answered s b).answer (step_fits s (book b))

  -- the parent is asked for
  climbed : (c : Climbs s b) → (asked after ≡ Some (drop 1 c.from.next)) × (caa_session_state after ≡ w)
  climbed c =
      let h = c.from in
      let up = one_up_course _ _ _ (course s b h) c.parent in
      let z = base h.kept in
      let count : suc s.up ≡ s.up + 1 = omega arith in
      let one_more_lem : drop (suc s.up) z ≡ drop 1 h.next = ap (λ k. drop k z) count ∙ sym (drop-drop 1 s.up z) ∙ ap (drop 1) (sym h.is_next) in
      (ap (λ t. asked t.session) c.goes ∙ asks_next _ _ _ up ∙ ap Some one_more_lem, ap (λ t. packed_session (state t.session)) c.goes ∙ sym (ap (λ t. packed_session t.answer) c.goes))

  tells_parent : (c : Climbs s b) → TellsName w after (drop 1 c.from.next)
  tells_parent c = let (e, f) = climbed c in rw f at ((asked_exactly after (drop 1 c.from.next)).0 e)

  climb_asks : (c : Climbs s b) → (o l : ℕ) × ((answered s b).answer ≡ Asks o l)
  climb_asks c =
      let up = States.asking (one_up s) (one_up_course _ _ _ (course s b c.from) c.parent).takes in
      (length up.front, length (wire up.next), ap (λ t. t.answer) c.goes ∙ up.in_words)

  -- the labels of the name asked for
  labels_left : (h : Asking s) → length h.next ≡ length (base h.kept) - s.up
  labels_left h = ap length h.is_next ∙ length-drop s.up (base h.kept)

  module _ (octets : Octets s.name.octets) (book-octets : Octets b) where
    abbrev Unrefused_all : Type 0
    Unrefused_all = NoneHolds (AnswerTable s b)

    none_held : ((r : Refusal) → (answered s b).answer ≡ Judged (Refused r) → ⊥) → Unrefused_all
    none_held = none_holds (answer_rows s b) (λ r. (answered s b).answer ≡ Judged (Refused r)) (answer_refusals s (book b) book-octets)

    never : Unrefused_all → (r : Refusal) → (answered s b).answer ≡ Judged (Refused r) → ⊥
    never = never_refuses (answer_rows s b) (λ r. (answered s b).answer ≡ Judged (Refused r)) (answer_refusals s (book b) book-octets)

    accepts : (h : Asking s) → Unrefused_all → Accepts s b h.kept h.next
    unfolding kept_name
    accepts h no_row = (no_row, (one_name_read (held s.name) (held_octets s.name octets) h.kept).0 h.is_kept_lem, h.asks_next)

    -- 40
    abbrev Next : Type 0
    Next = (n y : Name) × Accepts s b n y × Finds b y empty × (1 < length y)

    next_there : Ways s b → number_in w ≡ 40 → Next
    next_there (inl (r, f)) e =
        let (low, high) = StepWords.refusal_told (answered s b).answer (step_fits s (book b)) (ap (λ t. is_refusal t.answer) f) in
        absurd (omega (arith, high))
    next_there (inr (inl c)) e =
        let (o, l, f) = climb_asks c in
        let calm : (r : Refusal) → (answered s b).answer ≡ Judged (Refused r) → ⊥ = λ r g. asks_judged (sym f ∙ g) in
        (c.from.kept, c.from.next, accepts c.from (none_held calm), c.nothing, omega (arith, c.parent, labels_left c.from))
    next_there (inr (inr c)) e = absurd (asks_judged (sym (word_40 _ _ _ _ (answered s b).answer holds e) ∙ c.says))

    next_back : Ways s b → Next → number_in w ≡ 40
    next_back (inl (r, f)) (n, y, acc, e, more) = absurd (never acc.0 r (ap (λ t. t.answer) f))
    next_back (inr (inl c)) (n, y, acc, e, more) = (tells_parent c).0
    next_back (inr (inr c)) (n, y, acc, e, more) = absurd (not_both c.why)
      where
        not_both : (had b c.from.next ≢ empty) ⊎ (suc s.up ≡ length (base c.from.kept)) → ⊥
        not_both (inl h) = h (rw (next_is c.from acc.2) e)
        not_both (inr h) = omega (arith, more, labels_left c.from, ap length (next_is c.from acc.2))

    next_name : Ways s b → number_in w ≡ 40 → (y : Name) → asked s ≡ Some y → (asked after ≡ Some (drop 1 y)) × TellsName w after (drop 1 y)
    next_name (inr (inl c)) e y f = let same = next_is c.from f in ((climbed c).0 ∙ ap (λ z. Some (drop 1 z)) same, rw same at (tells_parent c))
    next_name (inl g) e y f = let (n, z, acc, nothing, more) = next_there (inl g) e in absurd (never acc.0 g.0 (ap (λ t. t.answer) g.1))
    next_name (inr (inr c)) e y f = absurd (asks_judged (sym (word_40 _ _ _ _ (answered s b).answer holds e) ∙ c.says))

    -- a verdict j
    abbrev Ended : Name → Type 0
    Ended y = (had b y ≢ empty) ⊎ (length y ≡ 1)

    abbrev By : Name → Name → Judgement → Type 0
    By n y j = Ruled (kept_applicant s) (is_wildcard n) (held s.issuer) s.up (had b y) j

    abbrev Verdict : Judgement → Type 0
    Verdict j = (n y : Name) × Accepts s b n y × Ended y × By n y j

    decided_exactly : (j : Judgement) → is_refusal (Judged j) ≡ false → ((answered s b).answer ≡ Judged j) ↔ Verdict j
    decided_exactly j calm = (λ e. there (ways s b) e, λ h. back (ways s b) h)
      where
        exactly : (n y : Name) → (rule s n (had b y) ≡ j) ↔ By n y j
        exactly n y = ruled_exactly (kept_applicant s) (is_wildcard n) (held s.issuer) s.up (had b y) j

        ended : (h : Asking s) → (had b h.next ≢ empty) ⊎ (suc s.up ≡ length (base h.kept)) → Ended h.next
        ended h (inl f) = inl f
        ended h (inr f) = inr (omega (arith, labels_left h))

        there : Ways s b → (answered s b).answer ≡ Judged j → Verdict j
        there (inl (r, f)) e = absurd (judged_refused {j = j} calm (sym e ∙ ap (λ t. t.answer) f))
        there (inr (inl c)) e = let (o, l, f) = climb_asks c in absurd (asks_judged (sym f ∙ e))
        there (inr (inr c)) e =
            let h = c.from in
            let says = sym c.says ∙ e in
            let same : rule s h.kept (had b h.next) ≡ j = cc in
            (h.kept, h.next, accepts h (none_held (λ r g. judged_refused {j = j} calm (sym e ∙ g))), ended h c.why, (exactly h.kept h.next).0 same)

        not_climbing : (c : Climbs s b) {n y : Name} → Accepts s b n y → Ended y → ⊥
        not_climbing c acc (inl f) = f (rw (← next_is c.from acc.2) c.nothing)
        not_climbing c acc (inr f) = omega (arith, c.parent, labels_left c.from, ap length (next_is c.from acc.2))

        back : Ways s b → Verdict j → (answered s b).answer ≡ Judged j
        back (inl (r, f)) (n, y, acc, end, h) = absurd (never acc.0 r (ap (λ t. t.answer) f))
        back (inr (inl c)) (n, y, acc, end, h) = absurd (not_climbing c acc end)
        back (inr (inr c)) (n, y, acc, end, h) =
            c.says ∙ ap (λ m. Judged (rule s m (had b c.from.next))) (kept_is c.from acc.1)
            ∙ ap (λ z. Judged (rule s n (had b z))) (next_is c.from acc.2) ∙ ap Judged ((exactly n y).1 h)

    permitted_exactly :
        (number_in w ≡ 0)
        ↔ ((n y : Name) × Accepts s b n y
        × ((Finds b y empty × (length y ≡ 1)) ⊎ ((rs : List CaaRecord) × Finds b y (found rs) × PermittedBy s n rs)))
    unfolding session_code judgement_code
    permitted_exactly = (
      λ e. let (n, y, acc, end, h) = (decided_exactly Permitted refl).0 (word_0 _ _ _ _ (answered s b).answer holds e) in (n, y, acc, there n y end h),
      λ (n, y, acc, h). (of_session _ _ _ _ ((decided_exactly Permitted refl).1 (n, y, acc, ended n y h, back n y h)) holds).0,
    )
      where
        Found : Name → Name → Type 0
        Found n y = (Finds b y empty × (length y ≡ 1)) ⊎ ((rs : List CaaRecord) × Finds b y (found rs) × PermittedBy s n rs)

        there : (n y : Name) → Ended y → By n y Permitted → Found n y
        there n y (inl other) (inl e) = absurd (other e)
        there n y (inr one) (inl e) = inl (e, one)
        there n y end (inr (rs, e, calm, h)) = inr (rs, e, (calm, h))

        ended : (n y : Name) → Found n y → Ended y
        ended n y (inl (e, one)) = inr one
        ended n y (inr (rs, e, h)) = inl (λ z. true≢false (let v = sym e ∙ z in cc))

        back : (n y : Name) → Found n y → By n y Permitted
        back n y (inl (e, one)) = inl e
        back n y (inr (rs, e, (calm, h))) = inr (rs, e, calm, h)

    -- the labels taken off are those of the session
    same_off : (n y : Name) (u v : ℕ) → WithoutLabels n u y → WithoutLabels n v y → u ≡ v
    same_off n y u v (e, h) (f, k) =
        omega (arith, h, k, length-drop u (base n), length-drop v (base n), ap length (sym e ∙ f))

    -- a denial, by the judgement that it is: P is what the rule has for it
    denied_exactly :
        (v : ℕ) (is : Denial → Judgement) (P : Name → Name → ℕ → Type 0) → ((d : Denial) → is_refusal (Judged (is d)) ≡ false) →
        (number_in w ≡ v → (answered s b).answer ≡ Judged (is (denial (field_a w) (field_b w) (field_c w)))) →
        ((k r u : ℕ) → Word (Judged (is (denial k r u))) → (number_in w ≡ v) × (field_a w ≡ k) × (field_b w ≡ r) × (field_c w ≡ u)) →
        ((n y : Name) (k r u : ℕ) → By n y (is (denial k r u)) ↔ ((k ≡ 0) × (u ≡ s.up) × P n y r)) →
        ((n y : Name) (r : ℕ) → P n y r → had b y ≢ empty) → (k r u : ℕ) →
        ((number_in w ≡ v) × (field_a w ≡ k) × (field_b w ≡ r) × (field_c w ≡ u))
        ↔ ((n y : Name) × Accepts s b n y × (k ≡ 0) × WithoutLabels n u y × P n y r)
    denied_exactly v is P calm meant told by_rule found-Some k r u = (
      λ (m, ea, eb, ec). there ((decided_exactly (is (denial k r u)) (calm _)).0 (rw (← ea, ← eb, ← ec) (meant m))),
      λ h. told k r u (of_session _ _ _ _ ((decided_exactly (is (denial k r u)) (calm _)).1 (back h)) holds),
    )
      where
        Because : Type 0
        Because = (n y : Name) × Accepts s b n y × (k ≡ 0) × WithoutLabels n u y × P n y r

        there : Verdict (is (denial k r u)) → Because
        there (n, y, acc, end, h) =
            let (zero, off, p) = (by_rule n y k r u).0 h in
            (n, y, acc, zero, rw off (asked_above s acc.1 acc.2), p)

        back : Because → Verdict (is (denial k r u))
        back (n, y, acc, zero, off, p) =
            let here = same_off n y u s.up off (asked_above s acc.1 acc.2) in
            (n, y, acc, inl (found-Some n y r p), (by_rule n y k r u).1 (zero, here, p))

    not_empty : (y : Name) (l : Lookup) → l ≢ empty → Finds b y l → had b y ≢ empty
    not_empty y l h e z = h (sym e ∙ z)

    number_found_lem : Ways s b → Memᴰ (number_in w) (14 ∷ 5 ∷ 6 ∷ 7 ∷ 12 ∷ 40 ∷ 0 ∷ 20 ∷ 21 ∷ 22 ∷ [])
    unfolding session_code judgement_code
    number_found_lem (inl (r, f)) =
        let e = ap (λ t. t.answer) f in
        let row = ((answer_refusals s (book b) book-octets r).0 e).0 in
        rw (of_session _ _ _ _ e holds).0 (row_number ((answer_rows s b).table_of r row))
    number_found_lem (inr (inl c)) = rw (tells_parent c).0 (one_of 40 _ refl)
    number_found_lem (inr (inr c)) =
        by_judgement (rule s c.from.kept (had b c.from.next)) ((ruled_exactly _ _ _ _ (had b c.from.next) _).0 refl) (of_session _ _ _ _ c.says holds)
      where
        by_judgement : (j : Judgement) → By c.from.kept c.from.next j → Word (Judged j) → Memᴰ (number_in w) (14 ∷ 5 ∷ 6 ∷ 7 ∷ 12 ∷ 40 ∷ 0 ∷ 20 ∷ 21 ∷ 22 ∷ [])
        by_judgement Permitted by h = rw h.0 (one_of 0 _ refl)
        by_judgement (UnknownCritical d) by h = rw h.0 (one_of 20 _ refl)
        by_judgement (NotGranted d) by h = rw h.0 (one_of 21 _ refl)
        by_judgement (TooManyAliases d) by h = rw h.0 (one_of 22 _ refl)
        by_judgement (Refused r) by h = absurd by

    texts_stay : Ways s b → SameTexts after s
    texts_stay (inl (r, f)) = same_texts s after s (ap (λ t. t.session) f) (refl, refl, refl, refl)
    texts_stay (inr (inl c)) = same_texts s after (one_up s) (ap (λ t. t.session) c.goes) (refl, refl, refl, refl)
    texts_stay (inr (inr c)) = same_texts s after (concluded s c.from.kept (had b c.from.next)) (ap (λ t. t.session) c.goes) (refl, refl, refl, refl)

    pub answer_says : AnswerWord s b (caa_session_answer s b).word (caa_session_answer s b).session
    unfolding session_code judgement_code
    answer_says = record {
      refused_exactly = refused_word (answered s b).answer (step_fits s (book b)) (answer_rows s b) (answer_refusals s (book b) book-octets);
      refused_unchanged = StepWords.refused_unchanged s (book b);
      next_exactly = (next_there (ways s b), next_back (ways s b));
      next_name = next_name (ways s b);
      permitted_exactly = permitted_exactly;
      unknown_critical_exactly = denied_exactly 20 UnknownCritical
          (λ n y r. (rs : List CaaRecord) × (c : CaaRecord) × Finds b y (found rs) × First UnknownCriticalRecord rs c × (c.number ≡ r))
          (λ d. refl) (word_20 _ _ _ _ (answered s b).answer holds) (λ k r u h. h) (λ n y k r u. (λ h. h, λ h. h))
          (λ n y r (rs, c, e, first, number). not_empty y (found rs) (λ (z : found rs ≡ empty). true≢false (cc)) e);
      not_granted_exactly = denied_exactly 21 NotGranted
          (λ n y r. (rs : List CaaRecord) × (c : CaaRecord) × Finds b y (found rs) × NoneCritical rs × First (Governs (is_wildcard n) rs) rs c
          × (Granted s n rs → ⊥) × (c.number ≡ r))
          (λ d. refl) (word_21 _ _ _ _ (answered s b).answer holds) (λ k r u h. h) (λ n y k r u. (λ h. h, λ h. h))
          (λ n y r (rs, c, e, calm, first, refused, number). not_empty y (found rs) (λ (z : found rs ≡ empty). true≢false (cc)) e);
      too_many_aliases_exactly = denied_exactly 22 TooManyAliases (λ n y r. Finds b y (endless r))
          (λ d. refl) (word_22 _ _ _ _ (answered s b).answer holds) (λ k r u h. h) (λ n y k r u. (λ h. h, λ h. h))
          (λ n y r e. not_empty y (endless r) (λ (z : endless r ≡ empty). true≢false (cc)) e);
      state_after = StepWords.state_after s (book b);
      texts_stay = texts_stay (ways s b);
      numbers = number_found_lem (ways s b);
      c_small = c_small _ _ _ _ (answered s b).answer (step_fits s (book b)) holds;
      b_unused = λ low. let (j, e, h) = judged _ _ _ _ (answered s b).answer holds (omega arith) in judge_b _ _ _ _ j h low;
      c_unused = ⊎_elim
          (λ low. let (j, e, h) = judged _ _ _ _ (answered s b).answer holds (omega arith) in judge_c _ _ _ _ j h low)
          (λ e. (of_session _ _ _ _ (word_40 _ _ _ _ (answered s b).answer holds e) holds).3);
      a_unused = λ e. let (j, f, h) = judged _ _ _ _ (answered s b).answer holds (omega arith) in judge_a _ _ _ _ j h e;
    }

pub caa_session_answer_lem : CaaSessionAnswer
caa_session_answer_lem = answer_says
