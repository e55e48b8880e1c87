-- What a method of a lent session returns, as the definitions say it.
use Rattle.spec_session_words.specs.SessionWords.{Worded}
use Rattle.session_words.specs.declared.Called.{Called}

abbrev pub called : Worded → Called
called w = record { session = record { kept = w.session }; word = w.word }
