-- The word of caa_session_open: the first row of the table that holds, or the name X.
use Rattle.std.proofs.lemmas.Option.{none-some}
use Rattle.std.specs.Prelude.{Option, None, Some}
use Prim.Native.Nat.{ℕ, ◌+◌, ◌≤◌}
use native.Mathlib.Omega.{arith}
use mathlib.Core.Path.{◌≡◌, refl, ap, sym, ◌∙◌}
use mathlib.Core.Logic.{◌⊎◌, inl, inr, ⊎_elim}
use mathlib.Core.Bool.{Bool, true, false, cond, false≢true}
use mathlib.Core.List.{List, [], ◌∷◌, append-nil, Memᴰ}
use lib.Dec.{ltb}
use lib.ListN.{length, length-append}
use Rattle.spec_limits.specs.Limits.{max_request_octets}
use Rattle.spec_refusal.specs.declared.Refusal.{Refusal}
use Rattle.spec_refusal.specs.declared.Refusal.TheVariants.{RequestTooLong}
use Rattle.spec_octets.specs.Octets.{Octets, text}
use Rattle.spec_octets.proofs.ListLaws.{true_or_false}
use Rattle.spec_octets.proofs.Texts.{same_equal}
use Rattle.spec_name.specs.Names.{Name, wire}
use Rattle.spec_request.specs.Request.{is_asterisk, is_wildcard, base, requested_name}
use Rattle.spec_request.proofs.RequestedNames.{requested_name_is_its_labels}
use Rattle.spec_issuer.specs.Issuer.{issuer_refusal}
use Rattle.spec_issuer.proofs.Dotted.{issuer_refusals}
use Rattle.spec_applicant.specs.Applicant.{Applicant, applicant_refusal}
use Rattle.spec_applicant.proofs.Texts.{applicant_refusals}
use Rattle.spec_rule.specs.declared.Judgement.TheVariants.{Permitted, UnknownCritical, NotGranted, TooManyAliases, Refused}
use Rattle.spec_rule.specs.Calls.{first_refusal, judgement_code}
use Rattle.spec_packed.specs.Packed.{number_in, field_a, field_b, field_c}
use Rattle.spec_answers.proofs.DoorRows.{one_of, among, none_holds, never_refuses}
use Rattle.spec_session.specs.declared.Session.{Session}
use Rattle.spec_session.specs.declared.SessionAnswer.{SessionAnswer}
use Rattle.spec_session.specs.declared.SessionAnswer.TheVariants.{Asks, Judged, LookupFailed, NoVerdict}
use Rattle.spec_session.specs.Sessions.{max_text_octets, held, text_of, kept_applicant}
use Rattle.spec_session.specs.Steps.{rest_refusal, one_name_refusal, open_checks, session_of, ended_session, opened_or, opened, is_refusal, session_code}
use Rattle.spec_session.specs.Meaning.{GoodOpening}
use Rattle.spec_session.proofs.Opening.{open_keeps, open_refusals, refused_opening, opening_is_good, opens, start_name, start_issuer, start_applicant}
use Rattle.spec_session_words.specs.SessionWords.{packed_session, caa_session_open, caa_session_state}
use Rattle.spec_session_words.specs.SessionDoor.{Refuses, zero_session, TellsName, OpenWord, CaaSessionOpen}
use Rattle.spec_session_words.proofs.WordAnswers.{HoldsAnswer, of_session, word_40}
use Rattle.spec_session_words.proofs.StepFits.{open_fits}
use Rattle.spec_session_words.proofs.SessionRows.{open_rows, word_holds, refused_word}
use Rattle.spec_session_words.proofs.StepWords.{refusal_meant, refusal_told}
use Rattle.spec_session_words.proofs.StateDoor.{asked_exactly, nothing_said}

-- what is refused has its refusal
refusal_of_lem : (x : SessionAnswer) → is_refusal x ≡ true → (r : Refusal) × (x ≡ Judged (Refused r))
refusal_of_lem (Asks o l) e = absurd (false≢true e)
refusal_of_lem (Judged Permitted) e = absurd (false≢true e)
refusal_of_lem (Judged (UnknownCritical d)) e = absurd (false≢true e)
refusal_of_lem (Judged (NotGranted d)) e = absurd (false≢true e)
refusal_of_lem (Judged (TooManyAliases d)) e = absurd (false≢true e)
refusal_of_lem (Judged (Refused r)) e = (r, refl)
refusal_of_lem LookupFailed e = absurd (false≢true e)
refusal_of_lem NoVerdict e = absurd (false≢true e)

zeros : ended_session ≡ zero_session
unfolding ended_session text_of max_text_octets
zeros = refl

-- the asterisk and its length octet stand before X
before_x : (n : Name) → length (wire n) ≡ cond (is_wildcard n) 2 0 + length (wire (base n))
unfolding is_wildcard base
before_x [] = refl
before_x (l ∷ ls) = go (is_asterisk l) refl
  where
    go : (t : Bool) → is_asterisk l ≡ t → length (wire (l ∷ ls)) ≡ cond t 2 0 + length (wire (cond t ls (l ∷ ls)))
    go true e =
        let one : length l ≡ 1 = ap length ((same_equal l (text "*")).0 e) in
        omega (arith, one, length-append l (wire ls))
    go false e = omega arith

module _ (request issuer : List ℕ) (who : Applicant) (octets : Octets request) where
  abbrev x : SessionAnswer
  x = (opened request issuer who).answer

  abbrev after : Session
  after = (opened request issuer who).session

  abbrev w : ℕ
  w = (caa_session_open request issuer who).word

  abbrev Word : SessionAnswer → Type 0
  Word y = HoldsAnswer (number_in w) (field_a w) (field_b w) (field_c w) y

  holds : Word x
  holds = word_holds x (open_fits request issuer who)

  -- an opening that is not refused
  abbrev Good : Type 0
  Good = (n : Name) × GoodOpening request issuer who n

  front_read : one_name_refusal request ≡ None → (n : Name) × (requested_name request ≡ Some (n, []))
  unfolding one_name_refusal
  front_read e = by_length (ltb max_request_octets (length request)) e
    where
      by_rest : (o : Option (Name × List ℕ)) → rest_refusal o ≡ None → (n : Name) × (o ≡ Some (n, []))
      by_rest None e = absurd (none-some _ (sym e))
      by_rest (Some (n, [])) e = (n, refl)
      by_rest (Some (n, y ∷ s)) e = absurd (none-some _ (sym e))

      by_length : (t : Bool) → cond t (Some RequestTooLong) (rest_refusal (requested_name request)) ≡ None → (n : Name) × (requested_name request ≡ Some (n, []))
      by_length true e = absurd (none-some _ (sym e))
      by_length false e = by_rest (requested_name request) e

  good_of : one_name_refusal request ≡ None → issuer_refusal issuer ≡ None → applicant_refusal who ≡ None → Good
  good_of e f g =
      let (n, read) = front_read e in
      let (whole, valid) = (requested_name_is_its_labels request octets n []).0 read in (
        n,
        record {
          are_octets = octets;
          one_name = whole ∙ append-nil (wire n);
          valid = valid;
          well_formed = (issuer_refusals issuer).1.0 f;
          applicant = (applicant_refusals who).1.0 g;
        },
      )

  refused_by : (r : Refusal) → first_refusal (open_checks request issuer who) ≡ Some r → x ≡ Judged (Refused r)
  unfolding opened
  refused_by r e = ap (λ c. (opened_or c (session_of request issuer who)).answer) e

  never_refused : ((r : Refusal) → x ≡ Judged (Refused r) → ⊥) → Good
  never_refused never = go (one_name_refusal request) (issuer_refusal issuer) (applicant_refusal who) refl refl refl
    where
      go : (a b c : Option Refusal) → one_name_refusal request ≡ a → issuer_refusal issuer ≡ b → applicant_refusal who ≡ c → Good
      go None None None e f g = good_of e f g
      go (Some r) b c e f g = absurd (never r (refused_by r (rw e refl)))
      go None (Some r) c e f g = absurd (never r (refused_by r (rw (e, f) refl)))
      go None None (Some r) e f g = absurd (never r (refused_by r (rw (e, f, g) refl)))

  ways : ((r : Refusal) × (x ≡ Judged (Refused r))) ⊎ Good
  ways = ⊎_elim
      (λ t. inl (refusal_of_lem x t))
      (λ f. inr (never_refused (λ r e. false≢true (sym f ∙ ap is_refusal e))))
      (true_or_false (is_refusal x))

  -- the word is what the session says
  same_word : {n : Name} → GoodOpening request issuer who n → caa_session_state after ≡ w
  same_word {n} g = ap packed_session (sym (opening_is_good request issuer who n g).2)

  tells_x : {n : Name} → GoodOpening request issuer who n → TellsName w after (base n)
  tells_x {n} g = rw (same_word g) at ((asked_exactly after (base n)).0 (opening_is_good request issuer who n g).0)

  is_40 : Good → number_in w ≡ 40
  is_40 (n, g) = (tells_x g).0

  good_40 : number_in w ≡ 40 → Good
  good_40 e = ⊎_elim (λ h. absurd (refused_40 h e)) (λ g. g) ways
    where
      refused_40 : (r : Refusal) × (x ≡ Judged (Refused r)) → number_in w ≡ 40 → ⊥
      refused_40 (r, f) e = let (low, high) = refusal_told x (open_fits request issuer who) (ap is_refusal f) in omega (arith, high)

  started : {n : Name} → GoodOpening request issuer who n → after ≡ session_of request issuer who
  started g = ap (λ t. t.session) (opens g)

  kept_length : {n : Name} → GoodOpening request issuer who n → after.name.length ≡ length (wire n)
  unfolding session_of text_of
  kept_length g = ap (λ t. t.name.length) (started g) ∙ ap length g.one_name

  offset : {n : Name} → GoodOpening request issuer who n → field_b w ≡ cond (is_wildcard n) 2 0
  offset {n} g =
      let (m, a, ends, there) = tells_x g in
      let k = kept_length g in
      omega (arith, before_x n)

  texts : Good → (held after.name ≡ request) × (held after.issuer ≡ issuer) × (held after.account ≡ who.account) × (held after.method ≡ who.method)
  unfolding kept_applicant
  texts (n, g) = (
    ap (λ t. held t.name) (started g) ∙ start_name g,
    ap (λ t. held t.issuer) (started g) ∙ start_issuer g,
    ap (λ t. held t.account) (started g) ∙ ap (λ a. a.account) (start_applicant g),
    ap (λ t. held t.method) (started g) ∙ ap (λ a. a.method) (start_applicant g),
  )

  refused_zeros : Refuses w → (after ≡ zero_session) × (number_in (caa_session_state after) ≡ 41)
  refused_zeros h =
      let (r, e, n) = refusal_meant x (open_fits request issuer who) h in
      let (is, nothing, none-stands) = refused_opening request issuer who r e in
      (is ∙ zeros, rw is (nothing_said ended_session (nothing, none-stands)))

  number_found_lem : ((r : Refusal) × (x ≡ Judged (Refused r))) ⊎ Good → Memᴰ (number_in w) (1 ∷ 2 ∷ 4 ∷ 15 ∷ 40 ∷ [])
  unfolding session_code judgement_code
  number_found_lem (inl (r, e)) =
      let row = ((open_refusals request issuer who octets r).0 e).0 in
      rw (of_session _ _ _ _ e holds).0 (among (1 ∷ 2 ∷ 4 ∷ 15 ∷ []) _ refl ((open_keeps request issuer who octets).numbered r row))
  number_found_lem (inr g) = rw (is_40 g) (one_of 40 _ refl)

  c_found : ((r : Refusal) × (x ≡ Judged (Refused r))) ⊎ Good → field_c w ≡ 0
  unfolding session_code judgement_code
  c_found (inl (r, e)) = (of_session _ _ _ _ e holds).3
  c_found (inr g) = (of_session _ _ _ _ (word_40 _ _ _ _ x holds (is_40 g)) holds).3

  b_found : ((r : Refusal) × (x ≡ Judged (Refused r))) ⊎ Good → number_in w ≤ 19 → field_b w ≡ 0
  unfolding session_code judgement_code
  b_found (inl (r, e)) low = (of_session _ _ _ _ e holds).2
  b_found (inr g) low = absurd (omega (arith, is_40 g))

  pub open_says : OpenWord request issuer who (caa_session_open request issuer who).word (caa_session_open request issuer who).session
  open_says = record {
    refused_exactly = refused_word x (open_fits request issuer who) (open_rows request issuer who) (open_refusals request issuer who octets);
    refused_zeros = refused_zeros;
    opened_exactly = (
      λ e. none_holds (open_rows request issuer who) (λ r. x ≡ Judged (Refused r)) (open_refusals request issuer who octets) (calm (good_40 e)),
      λ h. is_40 (never_refused (never_refuses (open_rows request issuer who) (λ r. x ≡ Judged (Refused r)) (open_refusals request issuer who octets) h)),
    );
    opening_is_good = (good_40, is_40);
    asks_for_x = λ n g. ((opening_is_good request issuer who n g).0, tells_x g, offset g);
    texts_kept = λ e. texts (good_40 e);
    state_after = λ e. let (n, g) = good_40 e in same_word g;
    numbers = number_found_lem ways;
    c_unused = c_found ways;
    b_unused = b_found ways;
  }
    where
      calm : Good → (r : Refusal) → x ≡ Judged (Refused r) → ⊥
      calm g r e = let (low, high) = refusal_told x (open_fits request issuer who) (ap is_refusal e) in omega (arith, is_40 g)

pub caa_session_open_lem : CaaSessionOpen
caa_session_open_lem = open_says
