-- An answer and the two arrays, part by part.
use Rattle.std.specs.Prelude.{Option}
use Prim.Native.Nat.{ℕ}
use mathlib.Core.Path.{◌≡◌, sym, ap}
use mathlib.Core.List.{List}
use Rattle.list_places.specs.declared.Permitted.{Permitted}
use Rattle.list_places.specs.PermittedBy.{PermittedIn}

-- the three ensures from one equation
pub permitted_parts :
    {p : PermittedIn} {answer : Option Permitted} {names rounds : List ℕ} → p ≡ record { answer = answer; names = names; rounds = rounds } →
    (answer ≡ p.answer) × ((names ≡ p.names) × (rounds ≡ p.rounds))
permitted_parts e =
    (sym (ap (λ (p : PermittedIn). p.answer) e), (sym (ap (λ (p : PermittedIn). p.names) e), sym (ap (λ (p : PermittedIn). p.rounds) e)))
