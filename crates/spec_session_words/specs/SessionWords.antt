-- The calls on a session, as in their contracts in crates/splinepearl/src/sessions.rt: the session after the call, and the word.
use Rattle.std.specs.Prelude.{ℕ, List}
use Rattle.spec_applicant.specs.Applicant.{Applicant}
use Rattle.spec_session.specs.declared.Session.{Session}
use Rattle.spec_session.specs.declared.SessionAnswer.{SessionAnswer}
use Rattle.spec_session.specs.declared.Stepped.{Stepped}
use Rattle.spec_session.specs.Sessions.{state}
use Rattle.spec_session.specs.Steps.{opened, answered, failed, session_code}
use Rattle.spec_answers.specs.Answers.{packed_code}

-- The session after a call, and the word that the call returns.
pub record Worded : Type 0 where
  pub session : Session
  pub word : ℕ

-- An answer of a session in 64 bits: its number, and its values in the fields.
unfoldable pub packed_session : SessionAnswer → ℕ
packed_session a = packed_code (session_code a)

abbrev pub worded : Stepped → Worded
worded t = record { session = t.session; word = packed_session t.answer }

abbrev pub caa_session_open : List ℕ → List ℕ → Applicant → Worded
caa_session_open request issuer who = worded (opened request issuer who)

abbrev pub caa_session_answer : Session → List ℕ → Worded
caa_session_answer s book = worded (answered s book)

abbrev pub caa_session_fail : Session → Worded
caa_session_fail s = worded (failed s)

-- The session stays as it is.
abbrev pub caa_session_state : Session → ℕ
caa_session_state s = packed_session (state s)
