-- What a caller of the session calls may rely on: one statement for each exported call, about the word that it returns and the session that
-- it leaves in memory; and one for a session from its opening on. Bits 0 to 7 of a word hold its number; the fields a, b and c follow (`number_in`,
-- `field_a`, `field_b`, `field_c` of spec_packed). Each statement is proved under its name in proofs/.
--
-- Where the terms of the statements are defined, in specs/ of the crate named:
--   Session, Text                        what a session has in memory: src/lib.rt of spec_session
--   held, asked, standing                the octets of a kept text, the name that a session asks for, its verdict: Sessions.antt of spec_session
--   Answer                               a book, or "lookup failed": Steps.antt of spec_session
--   OneName-2, GoodOpening, KeptWell     a request of one name, an opening and a session that keep the rules: Meaning.antt of spec_session
--   Agrees                               an answer that has for its name what a whole book has: Meaning.antt of spec_session
--   FirstToHold, NoneHolds, BookTable    the table of refusals by number and place: Door.antt of spec_answers
--   base, GoodRequested                  X of a requested name X or *.X, and a valid requested name: Request.antt of spec_request
--   lookup                               what a book has for one name, its aliases followed: RelevantSet.antt of spec_rule
--   UnknownCriticalRecord, Governs, ..   the rule of issue: Meaning.antt of spec_rule
use Rattle.std.specs.Prelude.{ℕ, ◌+◌, ◌≤◌, ◌<◌, ◌≡◌, ◌↔◌, ◌≢◌, ◌⊎◌, Bool, not, cond, ◌&&◌, leb, length, take, drop, replicate, Option, None, Some}
use mathlib.Core.List.{List, [], ◌∷◌, Memᴰ}
use Rattle.spec_limits.specs.Limits.{max_records}
use Rattle.spec_octets.specs.Lists.{All, Any, First, cons_if}
use Rattle.spec_octets.specs.Octets.{Octets, lowered}
use Rattle.spec_name.specs.Names.{Name, wire}
use Rattle.spec_request.specs.Request.{is_wildcard, base, GoodRequested}
use Rattle.spec_request.specs.Theorems.{Row1}
use Rattle.spec_applicant.specs.Applicant.{Applicant}
use Rattle.spec_record.specs.Records.{records}
use Rattle.spec_rule.specs.RelevantSet.{CaaRecord, as_book, Lookup, empty, found, endless, lookup}
use Rattle.spec_rule.specs.Meaning.{UnknownCriticalRecord, Governs, Grants}
use Rattle.spec_packed.specs.Packed.{number_in, field_a, field_b, field_c}
use Rattle.spec_answers.specs.Door.{caa_judge_for, IssuerTable, ApplicantTable, BookTable, FirstToHold, NoneHolds}
use Rattle.spec_session.specs.declared.Text.{Text}
use Rattle.spec_session.specs.declared.Session.{Session}
use Rattle.spec_session.specs.Sessions.{held, kept_applicant, asked, standing}
use Rattle.spec_session.specs.Steps.{Answer, book, lookup_failed}
use Rattle.spec_session.specs.Meaning.{OneName2, GoodOpening, KeptWell, Agrees}
use Rattle.spec_session_words.specs.SessionWords.{Worded, caa_session_open, caa_session_answer, caa_session_fail, caa_session_state}

-- The rows of the table of refusals: row n holds with the place p, which the word has in field a.

pub data OneNameTable (request : List ℕ) : ℕ → ℕ → Type 0 where
  -- The request is over its limit of octets.
  row_1 : Row1 request → OneNameTable request 1 0
  -- There is no valid name at the start of the request (0), or octets follow it (1).
  row_2 : (k : ℕ) → OneName2 request k → OneNameTable request 2 k

pub data EndedTable (s : Session) : ℕ → ℕ → Type 0 where
  -- The session asks for no name.
  row_14 : asked s ≡ None → EndedTable s 14 0

-- The rows of caa_session_open, and those of caa_session_answer. caa_session_fail has row 14 alone.
abbrev pub OpenTable : List ℕ → List ℕ → Applicant → ℕ → ℕ → Type 0
OpenTable request issuer who n p = OneNameTable request n p ⊎ IssuerTable issuer n p ⊎ ApplicantTable who n p

abbrev pub AnswerTable : Session → List ℕ → ℕ → ℕ → Type 0
AnswerTable s b n p = EndedTable s n p ⊎ BookTable b n p

-- The word is a refusal.
abbrev pub Refuses : ℕ → Type 0
Refuses word = (1 ≤ number_in word) × (number_in word ≤ 19)

-- A session of zeros.
abbrev pub zero_text : Text
zero_text = record { length = 0; octets = replicate 256 0 }

abbrev pub zero_session : Session
zero_session =
    record { phase = 0; up = 0; verdict = 0; rr = 0; name = zero_text; issuer = zero_text; account = zero_text; method = zero_text }

-- The word is 40, and the name y is at the end of the kept name: its wire form is the a octets from offset b on.
abbrev pub TellsName : ℕ → Session → Name → Type 0
TellsName word s y =
    (number_in word ≡ 40) × (field_a word ≡ length (wire y)) × (field_b word + field_a word ≡ s.name.length)
    × (take (field_a word) (drop (field_b word) s.name.octets) ≡ wire y)

-- The session is for the requested name n.
abbrev pub IsFor : Session → Name → Type 0
IsFor s n = (held s.name ≡ wire n) × GoodRequested n

-- y is X without its first u labels, and is not the root.
abbrev pub WithoutLabels : Name → ℕ → Name → Type 0
WithoutLabels n u y = (y ≡ drop u (base n)) × (u < length (base n))

-- The texts of a session stay as they are.
abbrev pub SameTexts : Session → Session → Type 0
SameTexts t s = (t.name ≡ s.name) × (t.issuer ≡ s.issuer) × (t.account ≡ s.account) × (t.method ≡ s.method)

-- caa_session_open: the session after it is made of the inputs alone, whatever was in memory.
pub record OpenWord (request issuer : List ℕ) (who : Applicant) (word : ℕ) (after : Session) : Type 0 where
  -- Refusal n with place p in a: exactly when row n of the table holds with place p and no row before it in the order of checks holds.
  pub refused_exactly : (n p : ℕ) → 1 ≤ n → n ≤ 19 →
      ((number_in word ≡ n) × (field_a word ≡ p)) ↔ FirstToHold (OpenTable request issuer who) n p
  -- A refusal leaves zeros. Such a session asks for nothing and has no verdict.
  pub refused_zeros : Refuses word → (after ≡ zero_session) × (number_in (caa_session_state after) ≡ 41)
  -- 40, a name is asked for: exactly when no row holds.
  pub opened_exactly : (number_in word ≡ 40) ↔ NoneHolds (OpenTable request issuer who)
  -- That is: the request is one valid name, and the issuer domain name, account and method keep to their rules.
  pub opening_is_good : (number_in word ≡ 40) ↔ ((n : Name) × GoodOpening request issuer who n)
  -- Then X is asked for. It is at offset 2 if the requested name is *.X, and at 0 if it is X.
  pub asks_for_x : (n : Name) → GoodOpening request issuer who n →
      (asked after ≡ Some (base n)) × TellsName word after (base n) × (field_b word ≡ cond (is_wildcard n) 2 0)
  -- The session keeps the request and the three texts as they were given.
  pub texts_kept : number_in word ≡ 40 →
      (held after.name ≡ request) × (held after.issuer ≡ issuer) × (held after.account ≡ who.account)
      × (held after.method ≡ who.method)
  -- caa_session_state then returns the same word.
  pub state_after : number_in word ≡ 40 → caa_session_state after ≡ word
  -- No other number is ever returned.
  pub numbers : Memᴰ (number_in word) (1 ∷ 2 ∷ 4 ∷ 15 ∷ 40 ∷ [])
  -- Field c is always 0, and field b is 0 except for 40.
  pub c_unused : field_c word ≡ 0
  pub b_unused : number_in word ≤ 19 → field_b word ≡ 0

abbrev pub CaaSessionOpen : Type 0
CaaSessionOpen =
    (request issuer : List ℕ) (who : Applicant) → Octets request →
    OpenWord request issuer who (caa_session_open request issuer who).word (caa_session_open request issuer who).session

-- No row holds: the book is accepted. The session is for the requested name n and asks for y.
abbrev pub Accepts : Session → List ℕ → Name → Name → Type 0
Accepts s b n y = NoneHolds (AnswerTable s b) × IsFor s n × (asked s ≡ Some y)

-- What the book has for y.
abbrev pub Finds : List ℕ → Name → Lookup → Type 0
Finds b y l = lookup (as_book (records b)) y ≡ l

-- By the records rs found for it, the requested name n is permitted to the issuer and the applicant of the session: none of them is critical with
-- an unknown tag, and none governs n, or one governs it and grants.
abbrev pub NoneCritical : List CaaRecord → Type 0
NoneCritical rs = All (λ r. UnknownCriticalRecord r → ⊥) rs

abbrev pub Granted : Session → Name → List CaaRecord → Type 0
Granted s n rs = Any (λ r. Governs (is_wildcard n) rs r × Grants (kept_applicant s) (lowered (held s.issuer)) r) rs

abbrev pub PermittedBy : Session → Name → List CaaRecord → Type 0
PermittedBy s n rs = NoneCritical rs × (All (λ r. Governs (is_wildcard n) rs r → ⊥) rs ⊎ Granted s n rs)

-- caa_session_answer: a book b comes as the answer to session s. `after` is the session after the call.
pub record AnswerWord (s : Session) (b : List ℕ) (word : ℕ) (after : Session) : Type 0 where
  -- Refusal n with place p in a: exactly when row n of the table holds with place p and no row before it in the order of checks holds.
  pub refused_exactly : (n p : ℕ) → 1 ≤ n → n ≤ 19 → ((number_in word ≡ n) × (field_a word ≡ p)) ↔ FirstToHold (AnswerTable s b) n p
  -- A refusal changes nothing in the session.
  pub refused_unchanged : Refuses word → after ≡ s
  -- 40, the next name: exactly when no row holds, the book has nothing for the name asked for, and that has more than one label.
  pub next_exactly : (number_in word ≡ 40) ↔ ((n y : Name) × Accepts s b n y × Finds b y empty × (1 < length y))
  -- The parent of the name asked for is asked for next.
  pub next_name : number_in word ≡ 40 → (y : Name) → asked s ≡ Some y →
      (asked after ≡ Some (drop 1 y)) × TellsName word after (drop 1 y)
  -- 0, permitted: exactly when no row holds, and the book has nothing for the name asked for, which has one label, or has records that permit.
  pub permitted_exactly :
      (number_in word ≡ 0)
      ↔ ((n y : Name) × Accepts s b n y
      × ((Finds b y empty × (length y ≡ 1)) ⊎ ((rs : List CaaRecord) × Finds b y (found rs) × PermittedBy s n rs)))
  -- 20, unknown critical: exactly when no row holds, k in a is 0, r in b is the first critical record with an unknown tag among those found,
  -- and u in c says how many labels were taken off X.
  pub unknown_critical_exactly : (k r u : ℕ) →
      ((number_in word ≡ 20) × (field_a word ≡ k) × (field_b word ≡ r) × (field_c word ≡ u))
      ↔ ((n y : Name) × Accepts s b n y × (k ≡ 0) × WithoutLabels n u y
      × ((rs : List CaaRecord) × (c : CaaRecord) × Finds b y (found rs) × First UnknownCriticalRecord rs c × (c.number ≡ r)))
  -- 21, not granted: exactly when no row holds, k in a is 0, none of the records found is critical with an unknown tag, r in b is the first that
  -- governs, none that governs grants, and u in c is as for 20.
  pub not_granted_exactly : (k r u : ℕ) →
      ((number_in word ≡ 21) × (field_a word ≡ k) × (field_b word ≡ r) × (field_c word ≡ u))
      ↔ ((n y : Name) × Accepts s b n y × (k ≡ 0) × WithoutLabels n u y
      × ((rs : List CaaRecord) × (c : CaaRecord) × Finds b y (found rs) × NoneCritical rs × First (Governs (is_wildcard n) rs) rs c
      × (Granted s n rs → ⊥) × (c.number ≡ r)))
  -- 22, too many aliases: exactly when no row holds, k in a is 0, the aliases of the name asked for don't end, r in b is the first of them, and u in
  -- c is as for 20.
  pub too_many_aliases_exactly : (k r u : ℕ) →
      ((number_in word ≡ 22) × (field_a word ≡ k) × (field_b word ≡ r) × (field_c word ≡ u))
      ↔ ((n y : Name) × Accepts s b n y × (k ≡ 0) × WithoutLabels n u y × Finds b y (endless r))
  -- caa_session_state then returns the same word, if it is not a refusal.
  pub state_after : (Refuses word → ⊥) → caa_session_state after ≡ word
  -- The texts stay as they are.
  pub texts_stay : SameTexts after s
  -- No other number is ever returned.
  pub numbers : Memᴰ (number_in word) (14 ∷ 5 ∷ 6 ∷ 7 ∷ 12 ∷ 40 ∷ 0 ∷ 20 ∷ 21 ∷ 22 ∷ [])
  -- Field c is at most 126: a name has at most 127 labels.
  pub c_small : field_c word ≤ 126
  -- Field b is 0 for a refusal and for 0; field c is 0 for 40 too.
  pub b_unused : number_in word ≤ 19 → field_b word ≡ 0
  pub c_unused : (number_in word ≤ 19) ⊎ (number_in word ≡ 40) → field_c word ≡ 0
  -- Field a is 0 if the number is 0.
  pub a_unused : number_in word ≡ 0 → field_a word ≡ 0

abbrev pub CaaSessionAnswer : Type 0
CaaSessionAnswer =
    (s : Session) (b : List ℕ) → Octets s.name.octets → Octets b →
    AnswerWord s b (caa_session_answer s b).word (caa_session_answer s b).session

-- caa_session_fail: the lookup of the name asked for failed.
pub record FailWord (s : Session) (word : ℕ) (after : Session) : Type 0 where
  -- Refusal n with place p in a: exactly when row n holds with place p. That is 14 with place 0, for a session that asks for no name.
  pub refused_exactly : (n p : ℕ) → 1 ≤ n → n ≤ 19 → ((number_in word ≡ n) × (field_a word ≡ p)) ↔ FirstToHold (EndedTable s) n p
  -- A refusal changes nothing in the session.
  pub refused_unchanged : Refuses word → after ≡ s
  -- 23, lookup failed: exactly when the session asks for a name.
  pub failed_exactly : (number_in word ≡ 23) ↔ ((y : Name) × (asked s ≡ Some y))
  -- caa_session_state then returns the same word.
  pub state_after : number_in word ≡ 23 → caa_session_state after ≡ word
  -- The texts stay as they are.
  pub texts_stay : SameTexts after s
  -- No other number is ever returned.
  pub numbers : Memᴰ (number_in word) (14 ∷ 23 ∷ [])
  -- The fields are always 0.
  pub a_unused : field_a word ≡ 0
  pub b_unused : field_b word ≡ 0
  pub c_unused : field_c word ≡ 0

abbrev pub CaaSessionFail : Type 0
CaaSessionFail = (s : Session) → FailWord s (caa_session_fail s).word (caa_session_fail s).session

-- caa_session_state: what a session in memory says, whatever its octets are. It changes nothing.
pub record StateWord (s : Session) (word : ℕ) : Type 0 where
  -- 40, a name is asked for: exactly when the phase is 1 and the session keeps its rules.
  pub asks_exactly : (number_in word ≡ 40) ↔ ((s.phase ≡ 1) × KeptWell s)
  -- The word tells which name: y exactly if y is asked for.
  pub asked_exactly : (y : Name) → (asked s ≡ Some y) ↔ TellsName word s y
  -- That is X without as many labels as the session says.
  pub asked_above : (n y : Name) → IsFor s n → asked s ≡ Some y → WithoutLabels n s.up y
  -- 0, permitted, and 23, lookup failed: exactly when the phase is 2, the session keeps its rules, and this is its verdict.
  pub settled_exactly : (v : ℕ) → Memᴰ v (0 ∷ 23 ∷ []) → (number_in word ≡ v) ↔ ((s.phase ≡ 2) × KeptWell s × (s.verdict ≡ v))
  -- 20, 21 and 22: the same, r in b is its record, below the limit of records, and u in c is its number of labels taken off.
  pub denied_exactly : (v r u : ℕ) → Memᴰ v (20 ∷ 21 ∷ 22 ∷ []) →
      ((number_in word ≡ v) × (field_b word ≡ r) × (field_c word ≡ u))
      ↔ ((s.phase ≡ 2) × KeptWell s × (s.verdict ≡ v) × (s.rr ≡ r) × (s.rr < max_records) × (s.up ≡ u))
  -- 41: exactly when no name is asked for and there is no verdict.
  pub no_verdict_exactly : (number_in word ≡ 41) ↔ ((asked s ≡ None) × (standing s ≡ None))
  -- A session that breaks a rule, or has another phase than 1 and 2, is one of those.
  pub broken : (KeptWell s → ⊥) ⊎ ((s.phase ≢ 1) × (s.phase ≢ 2)) → number_in word ≡ 41
  -- No other number is ever returned.
  pub numbers : Memᴰ (number_in word) (41 ∷ 40 ∷ 0 ∷ 20 ∷ 21 ∷ 22 ∷ 23 ∷ [])
  -- Field c is at most 126: a name has at most 127 labels.
  pub c_small : field_c word ≤ 126
  -- Field a is 0 except for 40. Fields b and c are 0 for 0, 23 and 41, and field c is 0 for 40.
  pub a_unused : number_in word ≢ 40 → field_a word ≡ 0
  pub b_unused : Memᴰ (number_in word) (0 ∷ 23 ∷ 41 ∷ []) → field_b word ≡ 0
  pub c_unused : Memᴰ (number_in word) (0 ∷ 23 ∷ 40 ∷ 41 ∷ []) → field_c word ≡ 0

abbrev pub CaaSessionState : Type 0
CaaSessionState = (s : Session) → Octets s.name.octets → StateWord s (caa_session_state s)

-- One call after the other, with nobody else writing the session: a book comes as the answer, or the lookup failed.
abbrev pub caa_session_step : Session → Answer → Worded
caa_session_step s (book b) = caa_session_answer s b
caa_session_step s lookup_failed = caa_session_fail s

abbrev pub after_calls : Session → List Answer → Session
after_calls s [] = s
after_calls s (a ∷ more) = after_calls (caa_session_step s a).session more

-- Those of the answers that are accepted: their words are no refusals. Each with the name that was asked for.
abbrev pub is_refusal_word : ℕ → Bool
is_refusal_word word = leb 1 (number_in word) && leb (number_in word) 19

abbrev pub accepted_calls : Session → List Answer → List (Option Name × Answer)
accepted_calls s [] = []
accepted_calls s (a ∷ more) =
    cons_if (not (is_refusal_word (caa_session_step s a).word)) (asked s, a) (accepted_calls (caa_session_step s a).session more)

-- A session from a good opening for the requested name n on: `answers` are the accepted ones, and `word` is what caa_session_state returns after
-- them.
pub record RunWord (request issuer : List ℕ) (who : Applicant) (n : Name) (answers : List (Option Name × Answer)) (last : Session) (word : ℕ) : Type 0 where
  -- At most as many answers are accepted as X has labels. After as many as that a verdict stands.
  pub as_many_as_labels : length answers ≤ length (base n)
  pub then_a_verdict : length answers ≡ length (base n) → number_in word ≢ 40
  -- A name is asked for, which is X without one label for each accepted answer; or a verdict stands.
  pub asks_in_turn : number_in word ≡ 40 → asked last ≡ Some (drop (length answers) (base n))
  pub numbers : Memᴰ (number_in word) (40 ∷ 0 ∷ 20 ∷ 21 ∷ 22 ∷ 23 ∷ [])
  -- If every accepted answer has for its name what one accepted whole book has, a verdict that stands is that of caa_judge_for on the whole book: its
  -- number, the name in a and the labels taken off in c.
  pub as_the_whole_book : (whole : List ℕ) → Octets whole → NoneHolds (BookTable whole) → All (Agrees whole) answers → number_in word ≢ 40 →
      (number_in word ≡ number_in (caa_judge_for request issuer who whole)) × (field_a word ≡ field_a (caa_judge_for request issuer who whole))
      × (field_c word ≡ field_c (caa_judge_for request issuer who whole))

abbrev pub CaaSessionRun : Type 0
CaaSessionRun =
    (request issuer : List ℕ) (who : Applicant) (n : Name) → GoodOpening request issuer who n → (given : List Answer) →
    RunWord request issuer who n (accepted_calls (caa_session_open request issuer who).session given)
    (after_calls (caa_session_open request issuer who).session given)
    (caa_session_state (after_calls (caa_session_open request issuer who).session given))
