-- The word of caa_session_state: what a session in memory says.
use Rattle.std.proofs.lemmas.Option.{none-some, same_Some}
use Rattle.std.specs.Prelude.{None, Some}
use mathlib.Core.List.Memᴰ.{tail}
use Prim.Native.Nat.{ℕ, ◌<◌}
use mathlib.Core.Path.{◌≡◌, refl, ap, sym, ◌∙◌}
use mathlib.Core.Logic.{◌↔◌, ◌≢◌, ◌⊎◌, inl, inr}
use mathlib.Core.Bool.{true, and-eq-true_iff}
use mathlib.Core.List.{[], ◌∷◌, Memᴰ}
use lib.Dec.{eqb}
use lib.ListN.{drop}
use borrow.Author.Tests.{eqb-true, ne_eqb, lt-ltb}
use Rattle.spec_limits.specs.Limits.{max_records}
use Rattle.spec_octets.specs.Octets.{Octets}
use Rattle.spec_octets.proofs.ListLaws.{not_passed}
use Rattle.spec_name.specs.Names.{Name}
use Rattle.spec_name.proofs.NameLaws.{one_name}
use Rattle.spec_request.specs.Request.{base}
use Rattle.spec_rule.specs.declared.Judgement.{Judgement}
use Rattle.spec_rule.specs.declared.Denial.{Denial}
use Rattle.spec_rule.specs.declared.Judgement.TheVariants.{Permitted, UnknownCritical, NotGranted, TooManyAliases, Refused}
use Rattle.spec_rule.specs.Verdicts.{denial}
use Rattle.spec_rule.specs.Calls.{judgement_code}
use Rattle.spec_packed.specs.Packed.{number_in, field_a, field_b, field_c}
use Rattle.spec_answers.proofs.DoorRows.{one_of}
use Rattle.spec_session.specs.declared.Session.{Session}
use Rattle.spec_session.specs.declared.SessionAnswer.{SessionAnswer}
use Rattle.spec_session.specs.declared.SessionAnswer.TheVariants.{Asks, Judged, LookupFailed, NoVerdict}
use Rattle.spec_session.specs.Sessions.{is_kept, asking, decided, is_asking, asked, verdict_of, standing, state}
use Rattle.spec_session.specs.Steps.{session_code}
use Rattle.spec_session.specs.Meaning.{KeptWell}
use Rattle.spec_session.proofs.Kept.{kept_exactly, broken_is_ended}
use Rattle.spec_session.proofs.StepLaws.{not_ended, state_tells}
use Rattle.spec_session_words.specs.SessionWords.{caa_session_state}
use Rattle.spec_session_words.specs.SessionDoor.{TellsName, IsFor, WithoutLabels, StateWord, CaaSessionState}
use Rattle.spec_session_words.proofs.SessionUnpacks.{DeniedBy, KeptAs}
use Rattle.spec_session_words.proofs.States
use Rattle.spec_session_words.proofs.States.{Asking, Says, says, state_fits}
use Rattle.spec_session_words.proofs.WordAnswers.{HoldsAnswer, of_session, c_small, word_0, word_20, word_21, word_22, word_23, word_40, word_41}
use Rattle.spec_session_words.proofs.ToldNames.{one_wire, held_octets, state_word, tells_next}

-- a name is asked for
pub named : (s : Session) {y : Name} → asked s ≡ Some y → Asking s
named s {y} e = States.asking s (not_ended s (λ z. none-some y (sym z ∙ e)))

-- the name asked for is the one that is told
pub next_is : {s : Session} {y : Name} (h : Asking s) → asked s ≡ Some y → h.next ≡ y
next_is h e = same_Some _ _ (sym h.asks_next ∙ e)

-- and the kept name is the one that the session is for
pub kept_is : {s : Session} (h : Asking s) {n : Name} → IsFor s n → h.kept ≡ n
kept_is h (whole, good) = one_name h.good good.0 (sym h.whole ∙ whole)

pub asked_above : (s : Session) {n y : Name} → IsFor s n → asked s ≡ Some y → WithoutLabels n s.up y
asked_above s {n} {y} is-for e =
    let h = named s e in
    let same = kept_is h is-for in
    (sym (next_is h e) ∙ h.is_next ∙ ap (λ m. drop s.up (base m)) same, rw same at h.below)

module _ (s : Session) where
  abbrev w : ℕ
  w = caa_session_state s

  -- the word holds what the session says
  abbrev Word : SessionAnswer → Type 0
  Word a = HoldsAnswer (number_in w) (field_a w) (field_b w) (field_c w) a

  pub saying : (a : SessionAnswer) → state s ≡ a → Says s a × Word a
  saying a e = (rw e at (says s), of_session _ _ _ _ e (state_word s))

  pub name_told : number_in w ≡ 40 → Asking s
  name_told e = (saying _ (word_40 _ _ _ _ (state s) (state_word s) e)).0.0

  pub asked_exactly : (y : Name) → (asked s ≡ Some y) ↔ TellsName w s y
  asked_exactly y = (λ e. let h = named s e in rw (next_is h e) at (tells_next h), λ t. back (name_told t.0) t)
    where
      back : Asking s → TellsName w s y → asked s ≡ Some y
      back h (n, a, ends, there) =
          let (m, b, finish, here) = tells_next h in
          h.asks_next ∙ ap Some (one_wire h.next y (sym here ∙ there))

  -- a session in phase 2 that keeps its rules says its verdict
  verdict_said : s.phase ≡ 2 → is_kept s ≡ true → (a : SessionAnswer) → verdict_of s.verdict s.rr s.up ≡ Some a → state s ≡ a
  unfolding standing decided
  verdict_said phase keeps a e = (state_tells s).1 a (rw (keeps, phase) e)

  number_of : (a : SessionAnswer) → Says s a → Word a → Memᴰ (number_in w) (41 ∷ 40 ∷ 0 ∷ 20 ∷ 21 ∷ 22 ∷ 23 ∷ [])
  unfolding session_code judgement_code
  number_of (Asks o l) h u = rw u.0 (one_of 40 _ refl)
  number_of (Judged Permitted) h u = rw u.0 (one_of 0 _ refl)
  number_of (Judged (UnknownCritical d)) h u = rw u.0 (one_of 20 _ refl)
  number_of (Judged (NotGranted d)) h u = rw u.0 (one_of 21 _ refl)
  number_of (Judged (TooManyAliases d)) h u = rw u.0 (one_of 22 _ refl)
  number_of (Judged (Refused r)) h u = absurd h.kept_verdict
  number_of LookupFailed h u = rw u.0 (one_of 23 _ refl)
  number_of NoVerdict h u = rw u.0 (one_of 41 _ refl)

  pub number_said : Memᴰ (number_in w) (41 ∷ 40 ∷ 0 ∷ 20 ∷ 21 ∷ 22 ∷ 23 ∷ [])
  number_said = number_of (state s) (says s) (state_word s)

  a_of : (a : SessionAnswer) → Says s a → Word a → number_in w ≢ 40 → field_a w ≡ 0
  unfolding session_code judgement_code
  a_of (Asks o l) h u other = absurd (other u.0)
  a_of (Judged Permitted) h u other = u.1
  a_of (Judged (UnknownCritical d)) h u other = u.1 ∙ ap (λ e. e.name.0) h.kept_verdict.1
  a_of (Judged (NotGranted d)) h u other = u.1 ∙ ap (λ e. e.name.0) h.kept_verdict.1
  a_of (Judged (TooManyAliases d)) h u other = u.1 ∙ ap (λ e. e.name.0) h.kept_verdict.1
  a_of (Judged (Refused r)) h u other = absurd h.kept_verdict
  a_of LookupFailed h u other = u.1
  a_of NoVerdict h u other = u.1

  b_unused : Memᴰ (number_in w) (0 ∷ 23 ∷ 41 ∷ []) → field_b w ≡ 0
  unfolding session_code judgement_code
  b_unused (Memᴰ.head e) = (saying _ (word_0 _ _ _ _ (state s) (state_word s) e)).1.2
  b_unused (Memᴰ.tail (Memᴰ.head e)) = (saying _ (word_23 _ _ _ _ (state s) (state_word s) e)).1.2
  b_unused (tail (tail (tail x12))) = elim x12 [ ]
  b_unused (Memᴰ.tail (Memᴰ.tail (Memᴰ.head e))) = (saying _ (word_41 _ _ _ _ (state s) (state_word s) e)).1.2

  c_unused : Memᴰ (number_in w) (0 ∷ 23 ∷ 40 ∷ 41 ∷ []) → field_c w ≡ 0
  unfolding session_code judgement_code
  c_unused (Memᴰ.head e) = (saying _ (word_0 _ _ _ _ (state s) (state_word s) e)).1.3
  c_unused (Memᴰ.tail (Memᴰ.head e)) = (saying _ (word_23 _ _ _ _ (state s) (state_word s) e)).1.3
  c_unused (Memᴰ.tail (Memᴰ.tail (Memᴰ.head e))) = (saying _ (word_40 _ _ _ _ (state s) (state_word s) e)).1.3
  c_unused (tail (tail (tail (tail x16)))) = elim x16 [ ]
  c_unused (Memᴰ.tail (Memᴰ.tail (Memᴰ.tail (Memᴰ.head e)))) = (saying _ (word_41 _ _ _ _ (state s) (state_word s) e)).1.3

  pub nothing_said : (asked s ≡ None) × (standing s ≡ None) → number_in w ≡ 41
  unfolding session_code
  nothing_said (e, f) = (saying NoVerdict ((state_tells s).2 e f)).1.0

  module _ (octets : Octets s.name.octets) where
    rules : (is_kept s ≡ true) ↔ KeptWell s
    rules = kept_exactly s (held_octets s.name octets)

    asks_exactly : (number_in w ≡ 40) ↔ ((s.phase ≡ 1) × KeptWell s)
    unfolding is_asking asking session_code
    asks_exactly = (λ e. there (name_told e).takes, λ (phase, kept). (saying _ (States.asking s (back phase kept)).in_words).1.0)
      where
        there : is_asking s ≡ true → (s.phase ≡ 1) × KeptWell s
        there t = let (phase, keeps) = (and-eq-true_iff (eqb s.phase 1) (is_kept s)).0 t in (eqb-true _ _ phase, rules.0 keeps)

        back : s.phase ≡ 1 → KeptWell s → is_asking s ≡ true
        back phase kept = rw (rules.1 kept, phase) refl

    settled_exactly : (v : ℕ) → Memᴰ v (0 ∷ 23 ∷ []) → (number_in w ≡ v) ↔ ((s.phase ≡ 2) × KeptWell s × (s.verdict ≡ v))
    unfolding session_code judgement_code verdict_of
    settled_exactly v (Memᴰ.head z) = rw z (
      λ e. let h = (saying _ (word_0 _ _ _ _ (state s) (state_word s) e)).0 in (h.in_phase, rules.0 h.keeps, h.kept_verdict),
      λ (phase, kept, e). (saying _ (verdict_said phase (rules.1 kept) (Judged Permitted) (rw e))).1.0,
    )
    settled_exactly v (tail (tail x8)) = elim x8 [ ]
    settled_exactly v (Memᴰ.tail (Memᴰ.head z)) = rw z (
      λ e. let h = (saying _ (word_23 _ _ _ _ (state s) (state_word s) e)).0 in (h.in_phase, rules.0 h.keeps, h.kept_verdict),
      λ (phase, kept, e). (saying _ (verdict_said phase (rules.1 kept) LookupFailed (rw e))).1.0,
    )

    abbrev Denied : ℕ → ℕ → ℕ → Type 0
    Denied v r u =
        ((number_in w ≡ v) × (field_b w ≡ r) × (field_c w ≡ u))
        ↔ ((s.phase ≡ 2) × KeptWell s × (s.verdict ≡ v) × (s.rr ≡ r) × (s.rr < max_records) × (s.up ≡ u))

    -- one of the three, by the answer that it is and the number that is kept of it
    denied_as :
        (v : ℕ) (is : Denial → Judgement) → (number_in w ≡ v → state s ≡ Judged (is (denial (field_a w) (field_b w) (field_c w)))) →
        ((d : Denial) → KeptAs s.verdict s.rr s.up (Judged (is d)) → DeniedBy v s.verdict s.rr s.up d) →
        ((r u : ℕ) → r < max_records → verdict_of v r u ≡ Some (Judged (is (denial 0 r u)))) →
        ((r u : ℕ) → Word (Judged (is (denial 0 r u))) → (number_in w ≡ v) × (field_b w ≡ r) × (field_c w ≡ u)) → (r u : ℕ) → Denied v r u
    denied_as v is read kept_by stands holds r u = (
      λ (e, b, c).
          let h = (saying _ (read e)).0 in
          let (number, same, few) = kept_by _ h.kept_verdict in
          (h.in_phase, rules.0 h.keeps, number, sym (ap (λ d. d.rr.0) same) ∙ b, few, sym (ap (λ d. d.up.0) same) ∙ c),
      λ (phase, kept, e, er, few, eu).
          let (number, b, c) = holds _ _ (saying _ (verdict_said phase (rules.1 kept) (Judged (is (denial 0 s.rr s.up))) (rw e (stands s.rr s.up few)))).1 in
          (number, b ∙ er, c ∙ eu),
    )

    denied_exactly : (v r u : ℕ) → Memᴰ v (20 ∷ 21 ∷ 22 ∷ []) → Denied v r u
    unfolding session_code judgement_code verdict_of
    denied_exactly v r u (Memᴰ.head z) = rw z (denied_as 20 UnknownCritical (word_20 _ _ _ _ (state s) (state_word s)) (λ d k. k)
        (λ r u few. rw (lt-ltb r max_records few) refl) (λ r u h. (h.0, h.2, h.3)) r u)
    denied_exactly v r u (Memᴰ.tail (Memᴰ.head z)) = rw z (denied_as 21 NotGranted (word_21 _ _ _ _ (state s) (state_word s)) (λ d k. k)
        (λ r u few. rw (lt-ltb r max_records few) refl) (λ r u h. (h.0, h.2, h.3)) r u)
    denied_exactly v r u (tail (tail (tail x12))) = elim x12 [ ]
    denied_exactly v r u (Memᴰ.tail (Memᴰ.tail (Memᴰ.head z))) = rw z (denied_as 22 TooManyAliases (word_22 _ _ _ _ (state s) (state_word s)) (λ d k. k)
        (λ r u few. rw (lt-ltb r max_records few) refl) (λ r u h. (h.0, h.2, h.3)) r u)

    broken : (KeptWell s → ⊥) ⊎ ((s.phase ≢ 1) × (s.phase ≢ 2)) → number_in w ≡ 41
    unfolding asked is_asking asking standing decided
    broken (inl h) = nothing_said (broken_is_ended s (not_passed (is_kept s) (λ e. h (rules.0 e))))
    broken (inr (first, second)) = nothing_said (rw (ne_eqb s.phase 1 first, ne_eqb s.phase 2 second) (refl, refl))

    pub state_says : StateWord s (caa_session_state s)
    state_says = record {
      asks_exactly = asks_exactly;
      asked_exactly = asked_exactly;
      asked_above = λ n y. asked_above s;
      settled_exactly = settled_exactly;
      denied_exactly = denied_exactly;
      no_verdict_exactly = (λ e. (saying NoVerdict (word_41 _ _ _ _ (state s) (state_word s) e)).0, nothing_said);
      broken = broken;
      numbers = number_said;
      c_small = c_small _ _ _ _ (state s) (state_fits s) (state_word s);
      a_unused = a_of (state s) (says s) (state_word s);
      b_unused = b_unused;
      c_unused = c_unused;
    }

pub caa_session_state_lem : CaaSessionState
caa_session_state_lem = state_says
