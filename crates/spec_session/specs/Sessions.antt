-- A session as it is kept: which name it asks for, and which verdict stands.
use Rattle.std.specs.Prelude.{ℕ, ◌-◌, Bool, false, cond, ◌&&◌, List, [], ◌++◌, eqb, leb, ltb, length, take, drop, replicate, Option, None, Some}
use Rattle.spec_limits.specs.Limits.{max_records}
use Rattle.spec_name.specs.Names.{Name, wire}
use Rattle.spec_request.specs.Request.{base, requested_name}
use Rattle.spec_issuer.specs.Issuer.{is_issuer}
use Rattle.spec_applicant.specs.Applicant.{Applicant, is_applicant}
use Rattle.spec_record.specs.Records.{filling}
use Rattle.spec_rule.specs.declared.Judgement.TheVariants.{Permitted, UnknownCritical, NotGranted, TooManyAliases}
use Rattle.spec_rule.specs.Verdicts.{denial}
use Rattle.spec_session.specs.declared.Text.{Text}
use Rattle.spec_session.specs.declared.Session.{Session}
use Rattle.spec_session.specs.declared.SessionAnswer.{SessionAnswer}
use Rattle.spec_session.specs.declared.SessionAnswer.TheVariants.{Asks, Judged, LookupFailed, NoVerdict}

-- How many octets a text has room for. No accepted name or text is longer.
unfoldable pub max_text_octets : ℕ
max_text_octets = 256

-- The octets of a kept text. A length beyond the room leaves no text.
unfoldable pub held : Text → List ℕ
held t = cond (leb t.length (length t.octets)) (take t.length t.octets) []

-- How a text is kept: its octets, and zeros behind them.
unfoldable pub text_of : List ℕ → Text
text_of s = record { length = length s; octets = take max_text_octets (s ++ replicate max_text_octets 0) }

-- The requested name that a session is for. Its octets are one valid requested name and nothing more.
unfoldable pub kept_name : Session → Option Name
kept_name s = filling (requested_name (held s.name))

unfoldable pub kept_applicant : Session → Applicant
kept_applicant s = record { account = held s.account; method = held s.method }

-- X has more than u labels: a name is left when u of them are taken off.
abbrev pub reaches : Option Name → ℕ → Bool
reaches None u = false
reaches (Some n) u = ltb u (length (base n))

-- The kept name, issuer domain name, account and method each keep to their rules, and so does the number of labels taken off.
unfoldable pub is_kept : Session → Bool
is_kept s = reaches (kept_name s) s.up && is_issuer (held s.issuer) && is_applicant (kept_applicant s)

-- The two phases of a session that is not ended without a verdict.
unfoldable pub asking : ℕ
asking = 1

unfoldable pub decided : ℕ
decided = 2

-- Any other session takes no answer.
unfoldable pub is_asking : Session → Bool
is_asking s = eqb s.phase asking && is_kept s

-- The base of the name without its first u labels.
abbrev pub above : Option Name → ℕ → Option Name
above None u = None
above (Some n) u = Some (drop u (base n))

-- The name to be looked up next: X, its parent, and so on.
unfoldable pub asked : Session → Option Name
asked s = cond (is_asking s) (above (kept_name s) s.up) None

-- A verdict by record rr. No accepted book has a record with a number of `max_records` or more.
abbrev pub of_record : ℕ → SessionAnswer → Option SessionAnswer
of_record rr v = cond (ltb rr max_records) (Some v) None

-- The verdict with this number, for the one name of a session. No other number is a verdict.
unfoldable pub verdict_of : ℕ → ℕ → ℕ → Option SessionAnswer
verdict_of number rr up =
    cond (eqb number 0) (Some (Judged Permitted))
    (cond (eqb number 20) (of_record rr (Judged (UnknownCritical (denial 0 rr up))))
    (cond (eqb number 21) (of_record rr (Judged (NotGranted (denial 0 rr up))))
    (cond (eqb number 22) (of_record rr (Judged (TooManyAliases (denial 0 rr up))))
    (cond (eqb number 23) (Some LookupFailed) None))))

-- The verdict that stands, if any. The labels taken off are those at which the session ended.
unfoldable pub standing : Session → Option SessionAnswer
standing s = cond (eqb s.phase decided && is_kept s) (verdict_of s.verdict s.rr s.up) None

-- What a session answers when it is asked for its state. The name asked for is at the end of the kept name, which has k octets.
abbrev pub state_from : ℕ → Option Name → Option SessionAnswer → SessionAnswer
state_from k (Some y) v = Asks (k - length (wire y)) (length (wire y))
state_from k None (Some v) = v
state_from k None None = NoVerdict

unfoldable pub state : Session → SessionAnswer
state s = state_from (length (held s.name)) (asked s) (standing s)
