-- A step, packed.
use Prim.Native.Nat.{ℕ}
use mathlib.Core.Path.{◌≡◌, refl}
use Rattle.spec_session.specs.declared.Stepped.{Stepped}
use Rattle.spec_session_words.specs.SessionWords.{packed_session, worded}
use Rattle.session_words.specs.declared.Called.{Called}
use Rattle.session_words.specs.Called.{called}

abbrev pub packed_step : Stepped → Called
packed_step t = called (worded t)

pub step_packed : (t : Stepped) (n : ℕ) → n ≡ packed_session t.answer → ◌≡◌ {A = Called} (record { session = record { kept = t.session }; word = n }) (packed_step t)
step_packed t n e = rw e refl
