-- What the result of a check says about the refusal.
use Rattle.std.specs.Prelude.{Option, None, Some, Result, Ok, Err}
use Prim.Native.Nat.{ℕ}
use native.Mathlib.Omega.{arith}
use mathlib.Core.Path.{◌≡◌, refl, sym, ◌∙◌}
use Rattle.spec_refusal.specs.declared.Refusal.{Refusal}
use Rattle.spec_refusal.specs.Checks.{checked}
use Rattle.spec_refusal.specs.Theorems.{CheckedExactly}

module _ (o : Option Refusal) {c : Result Unit Refusal} (f : c ≡ checked o) where
  pub refused : (r : Refusal) → c ≡ Err r → o ≡ Some r
  refused r g = go o (sym f ∙ g)
    where
      go : (o : Option Refusal) → checked o ≡ Err r → o ≡ Some r
      go None e = let z : ◌≡◌ {A = ℕ} 0 1 = cc in absurd (omega arith)
      go (Some q) e = cc

  pub accepted : c ≡ (Ok tt) → o ≡ None
  accepted g = go o (sym f ∙ g)
    where
      go : (o : Option Refusal) → checked o ≡ (Ok tt) → o ≡ None
      go None e = refl
      go (Some q) e = let z : ◌≡◌ {A = ℕ} 0 1 = cc in absurd (omega arith)

pub checked_exactly : CheckedExactly
checked_exactly o = ((accepted o refl, λ e. rw e), λ r. (refused o refl r, λ e. rw e))
