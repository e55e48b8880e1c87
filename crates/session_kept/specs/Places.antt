-- The same definitions over offsets, for code: where in the kept name the name asked for begins.
use Rattle.session_kept.specs.declared.Place.{Place}
use Rattle.session_kept.specs.declared.Part.{Part}
use Rattle.std.specs.Prelude.{ℕ, ◌-◌, Bool, cond, ◌&&◌, List, leb, ltb, length, drop, Option, None, Some}
use Rattle.spec_name.specs.Names.{Name, wire}
use Rattle.spec_request.specs.Request.{is_wildcard, base, requested_name}
use Rattle.spec_issuer.specs.Issuer.{is_issuer}
use Rattle.spec_applicant.specs.Applicant.{is_applicant}
use Rattle.spec_record.specs.Records.{filling}
use Rattle.spec_session.specs.declared.Text.{Text}
use Rattle.spec_session.specs.declared.Session.{Session}
use Rattle.spec_session.specs.Sessions.{held, kept_applicant}

-- How many octets of a kept text count.
unfoldable pub held_length : Text → ℕ
held_length t = cond (leb t.length (length t.octets)) t.length 0

-- The name x without its first u labels, at the end of k octets.
unfoldable pub above_at : ℕ → Name → ℕ → Option Part
above_at k x u =
    cond (ltb u (length x)) (Some (record { offset = k - length (wire (drop u x)); length = length (wire (drop u x)) })) None

abbrev pub placed_at : Bool → Option Part → Option Place
placed_at wildcard (Some p) = Some (record { offset = p.offset; length = p.length; wildcard = wildcard })
placed_at wildcard None = None

abbrev pub placed_in : ℕ → ℕ → Option Name → Option Place
placed_in k u None = None
placed_in k u (Some n) = placed_at (is_wildcard n) (above_at k (base n) u)

-- The octets s are one requested name: where it begins without its first u labels.
unfoldable pub name_above : List ℕ → ℕ → Option Place
name_above s u = placed_in (length s) u (filling (requested_name s))

-- Where the name asked for begins, if the session keeps the rules.
unfoldable pub kept_at : Session → Option Place
kept_at s = cond (is_issuer (held s.issuer) && is_applicant (kept_applicant s)) (name_above (held s.name) s.up) None
