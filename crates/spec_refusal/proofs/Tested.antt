-- A refusal that applies exactly when a test fails.
use Rattle.std.proofs.lemmas.Option.{none-some}
use Rattle.std.specs.Prelude.{Option, None, Some}
use mathlib.Core.Path.{◌≡◌, refl, sym}
use mathlib.Core.Logic.{◌↔◌}
use mathlib.Core.Bool.{Bool, true, false, cond, false≢true}
use Rattle.spec_refusal.specs.declared.Refusal.{Refusal}

module _ (x : Refusal) where
  pub test_fails : (t : Bool) → (cond {A = Option Refusal} t None (Some x) ≡ Some x) ↔ (t ≡ true → ⊥)
  test_fails true = (λ e. absurd (none-some x e), λ h. absurd (h refl))
  test_fails false = (λ e. false≢true, λ h. refl)

  pub test_passes : (t : Bool) → (cond {A = Option Refusal} t None (Some x) ≡ None) ↔ (t ≡ true)
  test_passes true = (λ e. refl, λ e. refl)
  test_passes false = (λ e. absurd (none-some x (sym e)), λ e. absurd (false≢true e))

  pub test_refusal : (t : Bool) (r : Refusal) → cond {A = Option Refusal} t None (Some x) ≡ Some r → r ≡ x
  test_refusal true r e = absurd (none-some r e)
  test_refusal false r e = cc

-- and where the test is that of a statement
pub refused_unless :
    {Good : Type 0} (x : Refusal) (t : Bool) → (t ≡ true) ↔ Good →
    ((cond {A = Option Refusal} t None (Some x) ≡ Some x) ↔ (Good → ⊥)) × ((cond {A = Option Refusal} t None (Some x) ≡ None) ↔ Good)
    × ((r : Refusal) → cond {A = Option Refusal} t None (Some x) ≡ Some r → r ≡ x)
refused_unless x t good = (
  (λ e k. (test_fails x t).0 e (good.1 k), λ n. (test_fails x t).1 (λ e. n (good.0 e))),
  (λ e. good.0 ((test_passes x t).0 e), λ k. (test_passes x t).1 (good.1 k)),
  test_refusal x t,
)
