-- The calls on a session: opening it, an answer with the records of the name asked for, and a lookup that failed.
use Rattle.std.specs.Prelude.{ℕ, suc, Bool, true, false, cond, not, List, [], ◌∷◌, ltb, length, drop, get_or, Option, None, Some}
use Rattle.spec_limits.specs.Limits.{max_request_octets}
use Rattle.spec_refusal.specs.declared.Refusal.{Refusal}
use Rattle.spec_refusal.specs.declared.Refusal.TheVariants.{RequestTooLong, BadName, SessionEnded}
use Rattle.spec_octets.specs.Lists.{cons_if}
use Rattle.spec_name.specs.Names.{Name}
use Rattle.spec_request.specs.Request.{is_wildcard, base, requested_name}
use Rattle.spec_issuer.specs.Issuer.{issuer_refusal}
use Rattle.spec_applicant.specs.Applicant.{Applicant, applicant_refusal}
use Rattle.spec_record.specs.Records.{records, book_refusal}
use Rattle.spec_rule.specs.declared.Judgement.{Judgement}
use Rattle.spec_rule.specs.declared.Judgement.TheVariants.{Permitted, UnknownCritical, NotGranted, TooManyAliases, Refused}
use Rattle.spec_rule.specs.RelevantSet.{Book, as_book, Lookup, empty, found, endless, lookup}
use Rattle.spec_rule.specs.Authorizations.{authorization_from}
use Rattle.spec_rule.specs.Verdicts.{Decision, verdict}
use Rattle.spec_rule.specs.Calls.{first_refusal, AnswerCode, judgement_code}
use Rattle.spec_session.specs.declared.Session.{Session}
use Rattle.spec_session.specs.declared.SessionAnswer.{SessionAnswer}
use Rattle.spec_session.specs.declared.SessionAnswer.TheVariants.{Asks, Judged, LookupFailed, NoVerdict}
use Rattle.spec_session.specs.declared.Stepped.{Stepped}
use Rattle.spec_session.specs.Sessions.{text_of, kept_name, kept_applicant, held, asking, decided, is_asking, asked, state}

-- Row 14: "Any answer to an ended session". It is looked for before the book is read.
unfoldable pub ended_refusal : Session → Option Refusal
ended_refusal s = cond (is_asking s) None (Some SessionEnded)

-- A refusal leaves the session as it was.
abbrev pub refused_with : Refusal → Session → Stepped
refused_with r s = record { answer = Judged (Refused r); session = s }

-- Whatever is accepted is answered by the state of the session after it.
abbrev pub goes_to : Session → Stepped
goes_to t = record { answer = state t; session = t }

-- "octets after one good name are 2 at place 1"
abbrev pub rest_refusal : Option (Name × List ℕ) → Option Refusal
rest_refusal None = Some (BadName (record { 0 = 0 }))
rest_refusal (Some (n, [])) = None
rest_refusal (Some (n, x ∷ s)) = Some (BadName (record { 0 = 1 }))

-- Rows 1 and 2 for a request of one name.
unfoldable pub one_name_refusal : List ℕ → Option Refusal
one_name_refusal s = cond (ltb max_request_octets (length s)) (Some RequestTooLong) (rest_refusal (requested_name s))

abbrev pub open_checks : List ℕ → List ℕ → Applicant → List (Option Refusal)
open_checks request issuer who = one_name_refusal request ∷ issuer_refusal issuer ∷ applicant_refusal who ∷ []

-- A session that asks for X.
unfoldable pub session_of : List ℕ → List ℕ → Applicant → Session
session_of request issuer who = record {
  phase = asking;
  up = 0;
  verdict = 0;
  rr = 0;
  name = text_of request;
  issuer = text_of issuer;
  account = text_of who.account;
  method = text_of who.method;
}

-- The session of a refused opening: zeros.
unfoldable pub ended_session : Session
ended_session = record { phase = 0; up = 0; verdict = 0; rr = 0; name = text_of []; issuer = text_of []; account = text_of []; method = text_of [] }

abbrev pub opened_or : Option Refusal → Session → Stepped
opened_or None t = goes_to t
opened_or (Some r) t = record { answer = Judged (Refused r); session = ended_session }

unfoldable pub opened : List ℕ → List ℕ → Applicant → Stepped
opened request issuer who = opened_or (first_refusal (open_checks request issuer who)) (session_of request issuer who)

-- One more label is taken off.
abbrev pub one_up : Session → Session
one_up s = record {
  phase = s.phase;
  up = suc s.up;
  verdict = s.verdict;
  rr = s.rr;
  name = s.name;
  issuer = s.issuer;
  account = s.account;
  method = s.method;
}

-- The session ends with this verdict and this record.
abbrev pub closed_with : ℕ → ℕ → Session → Session
closed_with number r s = record {
  phase = decided;
  up = s.up;
  verdict = number;
  rr = r;
  name = s.name;
  issuer = s.issuer;
  account = s.account;
  method = s.method;
}

abbrev pub closed_by : Judgement → Session → Session
closed_by j s = closed_with (judgement_code j).number (get_or (judgement_code j).values 1 0) s

-- What the rule decides by a lookup l that is made with u labels taken off.
abbrev pub decided_from : Applicant → Bool → ℕ → Lookup → Decision
decided_from who wildcard u l = record { says = authorization_from who wildcard l; up = u }

-- The verdict of the rule on the one name n, by what was found for it.
abbrev pub concluded : Session → Name → Lookup → Session
concluded s n l = closed_by (verdict (held s.issuer) (decided_from (kept_applicant s) (is_wildcard n) s.up l ∷ [])) s

-- RFC 8659 section 3: if nothing is found at a name, its parent is asked for. The root is never asked for.
abbrev pub by_lookup : Session → Name → Lookup → Session
by_lookup s n empty = cond (ltb (suc s.up) (length (base n))) (one_up s) (concluded s n empty)
by_lookup s n (found rs) = concluded s n (found rs)
by_lookup s n (endless r) = concluded s n (endless r)

-- "Only the asked name's CAA records count": one lookup of that name in the book, its aliases followed there.
abbrev pub by_records : Session → Option Name → Book → Session
by_records s None book = s
by_records s (Some n) book = by_lookup s n (lookup book (drop s.up (base n)))

abbrev pub answered_or : Option Refusal → Session → List ℕ → Stepped
answered_or None s b = goes_to (by_records s (kept_name s) (as_book (records b)))
answered_or (Some r) s b = refused_with r s

abbrev pub answer_checks : Session → List ℕ → List (Option Refusal)
answer_checks s b = ended_refusal s ∷ book_refusal b ∷ []

-- A book comes as the answer to the name asked for.
unfoldable pub answered : Session → List ℕ → Stepped
answered s b = answered_or (first_refusal (answer_checks s b)) s b

-- The lookup of the name asked for failed: verdict 23.
abbrev pub failed_or : Option Refusal → Session → Stepped
failed_or None s = goes_to (closed_with 23 0 s)
failed_or (Some r) s = refused_with r s

unfoldable pub failed : Session → Stepped
failed s = failed_or (ended_refusal s) s

-- An answer to a session.
pub data Answer : Type 0 where
  book : List ℕ → Answer
  lookup_failed : Answer

abbrev pub step : Session → Answer → Stepped
step s (book b) = answered s b
step s lookup_failed = failed s

-- The session after these answers, one after the other.
abbrev pub after : Session → List Answer → Session
after s [] = s
after s (a ∷ more) = after (step s a).session more

abbrev pub is_refusal : SessionAnswer → Bool
is_refusal (Asks o l) = false
is_refusal (Judged Permitted) = false
is_refusal (Judged (UnknownCritical d)) = false
is_refusal (Judged (NotGranted d)) = false
is_refusal (Judged (TooManyAliases d)) = false
is_refusal (Judged (Refused r)) = true
is_refusal LookupFailed = false
is_refusal NoVerdict = false

-- Those of the answers that are not refused, each with the name that was asked for.
abbrev pub accepted : Session → List Answer → List (Option Name × Answer)
accepted s [] = []
accepted s (a ∷ more) = cons_if (not (is_refusal (step s a).answer)) (asked s, a) (accepted (step s a).session more)

-- The number and the values of each answer. 23 is the requirements' number; 40, with length and offset, and 41 are this project's own.
unfoldable pub session_code : SessionAnswer → AnswerCode
session_code (Asks o l) = record { number = 40; values = l ∷ o ∷ [] }
session_code (Judged j) = judgement_code j
session_code LookupFailed = record { number = 23; values = [] }
session_code NoVerdict = record { number = 41; values = [] }
