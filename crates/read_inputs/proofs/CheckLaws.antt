-- Several checks in order: what it means that all accept.
use Rattle.std.specs.Prelude.{Option, None, Some}
use Prim.Native.Nat.{ℕ}
use native.Mathlib.Omega.{arith}
use mathlib.Core.Path.{◌≡◌, refl}
use mathlib.Core.List.{List, [], ◌∷◌}
use Rattle.spec_octets.specs.Lists.{All, all_nil, all_cons}
use Rattle.spec_refusal.specs.declared.Refusal.{Refusal}
use Rattle.spec_rule.specs.Calls.{first_refusal}

-- where the first refusal is none, none of the checks refuses
pub none_refuses : (os : List (Option Refusal)) → first_refusal os ≡ None → All (λ o. o ≡ None) os
none_refuses [] e = all_nil
none_refuses (None ∷ os) e = all_cons refl (none_refuses os e)
none_refuses (Some r ∷ os) e = let z : ◌≡◌ {A = ℕ} 0 1 = cc in absurd (omega arith)
