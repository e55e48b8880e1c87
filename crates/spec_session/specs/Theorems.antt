-- What the definitions of this crate mean. Each statement is proved under its name in proofs/.
use Rattle.std.specs.Prelude.{ℕ, ◌+◌, ◌-◌, ◌≤◌, ◌<◌, ◌≡◌, ◌↔◌, ◌≢◌, ◌⊎◌, true, false, List, [], ◌∷◌, ◌++◌, map, length, take, drop, replicate, Option, None, Some}
use Rattle.spec_refusal.specs.declared.Refusal.{Refusal}
use Rattle.spec_refusal.specs.declared.Refusal.TheVariants.{SessionEnded}
use Rattle.spec_octets.specs.Lists.{All}
use Rattle.spec_octets.specs.Octets.{Octets}
use Rattle.spec_name.specs.Names.{Name, wire, ancestors}
use Rattle.spec_request.specs.Request.{is_wildcard, base}
use Rattle.spec_applicant.specs.Applicant.{Applicant}
use Rattle.spec_record.specs.Records.{records, book_refusal}
use Rattle.spec_rule.specs.declared.Judgement.{Judgement}
use Rattle.spec_rule.specs.declared.Judgement.TheVariants.{Refused}
use Rattle.spec_rule.specs.RelevantSet.{as_book, lookup}
use Rattle.spec_rule.specs.Verdicts.{verdict}
use Rattle.spec_rule.specs.Calls.{judge}
use Rattle.spec_rule.specs.Theorems.{FirstRow, renumbered_verdict}
use Rattle.spec_session.specs.declared.Session.{Session}
use Rattle.spec_session.specs.declared.SessionAnswer.{SessionAnswer}
use Rattle.spec_session.specs.declared.SessionAnswer.TheVariants.{Asks, Judged, LookupFailed, NoVerdict}
use Rattle.spec_session.specs.Sessions.{max_text_octets, held, text_of, is_kept, asked, standing, state}
use Rattle.spec_session.specs.Steps.{ended_session, opened, decided_from, answered, failed, Answer, book, step, after, is_refusal, accepted}
use Rattle.spec_session.specs.Meaning.{OpenRow, AnswerRow, OctetsOf, GoodOpening, KeptWell, Agrees, NumberedBy}

-- A text of at most 256 octets is kept whole, with zeros behind it. Every kept text takes 256 octets.
abbrev pub TextsKept : Type 0
TextsKept =
    (s : List ℕ) →
    (length (text_of s).octets ≡ max_text_octets)
    × (length s ≤ max_text_octets → (held (text_of s) ≡ s) × ((text_of s).octets ≡ s ++ replicate (max_text_octets - length s) 0))

-- Opening is refused exactly when the table says so.
abbrev pub OpenRefusals : Type 0
OpenRefusals =
    (request issuer : List ℕ) (who : Applicant) → Octets request → (r : Refusal) →
    ((opened request issuer who).answer ≡ Judged (Refused r)) ↔ FirstRow (OpenRow request issuer who) r

-- "A refused opening gives an ended session without a verdict": zeros, whatever was opened.
abbrev pub RefusedOpening : Type 0
RefusedOpening =
    (request issuer : List ℕ) (who : Applicant) (r : Refusal) → (opened request issuer who).answer ≡ Judged (Refused r) →
    ((opened request issuer who).session ≡ ended_session) × (asked ended_session ≡ None) × (standing ended_session ≡ None)

-- A session that is opened asks for X.
abbrev pub OpeningIsGood : Type 0
OpeningIsGood =
    (request issuer : List ℕ) (who : Applicant) (n : Name) → GoodOpening request issuer who n →
    (asked (opened request issuer who).session ≡ Some (base n)) × (standing (opened request issuer who).session ≡ None)
    × ((opened request issuer who).answer ≡ state (opened request issuer who).session)
    × (held (opened request issuer who).session.name ≡ wire n)

-- "Any answer to an ended session, a bad book or "failed" too, gets refusal 14, place 0, nothing changed"
abbrev pub EndedRefuses : Type 0
EndedRefuses = (s : Session) (a : Answer) → asked s ≡ None → step s a ≡ record { answer = Judged (Refused SessionEnded); session = s }

-- An answer is refused exactly when the table says so: 14 comes first, and then what the book is refused by.
abbrev pub AnswerRefusals : Type 0
AnswerRefusals =
    (s : Session) (a : Answer) → OctetsOf a → (r : Refusal) → ((step s a).answer ≡ Judged (Refused r)) ↔ FirstRow (AnswerRow s a) r

-- A refused answer leaves the session alone.
abbrev pub RefusedAnswer : Type 0
RefusedAnswer = (s : Session) (a : Answer) (r : Refusal) → (step s a).answer ≡ Judged (Refused r) → (step s a).session ≡ s

-- "A refused book (5, 6, 7) leaves the session alone", and 12 does too: the same name is asked for again.
abbrev pub RefusedBook : Type 0
RefusedBook =
    (s : Session) (b : List ℕ) (r : Refusal) → asked s ≢ None → book_refusal b ≡ Some r →
    answered s b ≡ record { answer = Judged (Refused r); session = s }

-- "Failed" ends the session with verdict 23.
abbrev pub FailedEnds : Type 0
FailedEnds =
    (s : Session) → asked s ≢ None →
    ((failed s).answer ≡ LookupFailed) × (standing (failed s).session ≡ Some LookupFailed) × (asked (failed s).session ≡ None)

-- What is not refused is answered by the state of the session after it.
abbrev pub AnsweredByState : Type 0
AnsweredByState = (s : Session) (a : Answer) → is_refusal (step s a).answer ≡ false → (step s a).answer ≡ state (step s a).session

-- A session asks for a name, or has a verdict, or neither; never both. Its state tells which.
abbrev pub StateTells : Type 0
StateTells =
    (s : Session) →
    (asked s ≢ None → standing s ≡ None) × ((v : SessionAnswer) → standing s ≡ Some v → state s ≡ v)
    × (asked s ≡ None → standing s ≡ None → state s ≡ NoVerdict)

-- An ended session stays as it is, and so does its verdict.
abbrev pub EndedStays : Type 0
EndedStays = (s : Session) (given : List Answer) → asked s ≡ None → (after s given ≡ s) × (accepted s given ≡ [])

-- The name asked for is told by its length and its offset in the kept name: these octets are its wire form, to the end.
abbrev pub AskedOctets : Type 0
AskedOctets =
    (s : Session) (y : Name) → Octets (held s.name) → asked s ≡ Some y →
    (o l : ℕ) × (state s ≡ Asks o l) × (l ≡ length (wire y)) × (take l (drop o (held s.name)) ≡ wire y) × (o + l ≡ length (held s.name))

-- A session that breaks a rule is ended and has no verdict.
abbrev pub BrokenIsEnded : Type 0
BrokenIsEnded = (s : Session) → is_kept s ≡ false → (asked s ≡ None) × (standing s ≡ None)

-- The rules that a kept session must keep.
abbrev pub KeptExactly : Type 0
KeptExactly = (s : Session) → Octets (held s.name) → (is_kept s ≡ true) ↔ KeptWell s

-- From a good opening, whatever answers come:
module _ (request issuer : List ℕ) (who : Applicant) where
  -- the session after these answers, and those of them that were accepted.
  abbrev pub session_after : List Answer → Session
  session_after given = after (opened request issuer who).session given

  abbrev pub accepted_of : List Answer → List (Option Name × Answer)
  accepted_of given = accepted (opened request issuer who).session given

-- The names asked for are X, its parent, and so on: one for each accepted answer, and then the next.
abbrev pub AskedInTurn : Type 0
AskedInTurn =
    (request issuer : List ℕ) (who : Applicant) (n : Name) → GoodOpening request issuer who n → (given : List Answer) →
    (map (λ p. p.0) (accepted_of request issuer who given)
    ≡ map Some (take (length (accepted_of request issuer who given)) (ancestors (base n))))
    × ((y : Name) → asked (session_after request issuer who given) ≡ Some y → y ≡ drop (length (accepted_of request issuer who given)) (base n))

-- The session asks for a name, or a verdict stands: never both, never neither.
abbrev pub AsksOrStands : Type 0
AsksOrStands =
    (request issuer : List ℕ) (who : Applicant) (n : Name) → GoodOpening request issuer who n → (given : List Answer) →
    ((standing (session_after request issuer who given) ≡ None)
    × (asked (session_after request issuer who given) ≡ Some (drop (length (accepted_of request issuer who given)) (base n)))
    × (length (accepted_of request issuer who given) < length (base n)))
    ⊎ ((standing (session_after request issuer who given) ≢ None) × (asked (session_after request issuer who given) ≡ None))

-- "a verdict stands after at most as many accepted answers as X has labels"
abbrev pub VerdictStands : Type 0
VerdictStands =
    (request issuer : List ℕ) (who : Applicant) (n : Name) → GoodOpening request issuer who n → (given : List Answer) →
    (length (accepted_of request issuer who given) ≤ length (base n))
    × (length (accepted_of request issuer who given) ≡ length (base n) → standing (session_after request issuer who given) ≢ None)

-- Where every accepted answer has for the name asked for what one accepted whole book has, the verdict is that of the whole book. Only the record
-- number may differ.
abbrev pub AsTheWholeBook : Type 0
AsTheWholeBook =
    (request issuer : List ℕ) (who : Applicant) (n : Name) → GoodOpening request issuer who n → (given : List Answer) (whole : List ℕ) →
    book_refusal whole ≡ None → All (Agrees whole) (accepted_of request issuer who given) →
    (v : SessionAnswer) → standing (session_after request issuer who given) ≡ Some v →
    (j : Judgement) × (v ≡ Judged j) × (renumbered_verdict (λ r. 0) j ≡ renumbered_verdict (λ r. 0) (judge request issuer who whole))

-- A verdict other than 23 is that of the rule on the lookup in the last accepted answer. Its record number is of that answer, and the labels taken
-- off are the answers accepted before it.
abbrev pub OwnNumbers : Type 0
OwnNumbers =
    (request issuer : List ℕ) (who : Applicant) (n : Name) → GoodOpening request issuer who n → (given : List Answer) (j : Judgement) →
    standing (session_after request issuer who given) ≡ Some (Judged j) →
    (front : List (Option Name × Answer)) × (y : Name) × (b : List ℕ)
    × (accepted_of request issuer who given ≡ front ++ ((Some y, book b) ∷ []))
    × (j ≡ verdict issuer (decided_from who (is_wildcard n) (length front) (lookup (as_book (records b)) y) ∷ []))
    × NumberedBy (is_wildcard n) (lookup (as_book (records b)) y) (length front) j
