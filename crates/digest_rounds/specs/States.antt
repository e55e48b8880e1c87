-- The eight words of the code as the eight words of the definitions, where `number` says which number a word is.
use Rattle.std.specs.Prelude.{ℕ}
use Rattle.spec_digest.specs.Family.{State}
use Rattle.digest_rounds.specs.declared.State.{State as Words}

abbrev pub state : {W : Type 0} → (W → ℕ) → Words W → State
state number s = record {
  a = number s.a;
  b = number s.b;
  c = number s.c;
  d = number s.d;
  e = number s.e;
  f = number s.f;
  g = number s.g;
  h = number s.h;
}
