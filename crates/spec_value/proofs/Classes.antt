-- Texts without a given octet.
use Prim.Native.Nat.{ℕ}
use mathlib.Core.Logic.{◌≢◌}
use mathlib.Core.List.{List}
use Rattle.spec_octets.specs.Lists.{All}

-- none is c
abbrev pub Free : ℕ → List ℕ → Type 0
Free c s = All (λ x. x ≢ c) s
