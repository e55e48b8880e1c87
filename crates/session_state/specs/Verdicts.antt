-- A verdict that may be missing, as an answer.
use Rattle.std.specs.Prelude.{Option, None, Some}
use Rattle.spec_session.specs.declared.SessionAnswer.{SessionAnswer}
use Rattle.spec_session.specs.declared.SessionAnswer.TheVariants.{NoVerdict}

abbrev pub or_no_verdict : Option SessionAnswer → SessionAnswer
or_no_verdict None = NoVerdict
or_no_verdict (Some v) = v
