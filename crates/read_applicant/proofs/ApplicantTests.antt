-- A method by its two tests: it is an account text, and it contains no comma.
use Prim.Native.Nat.{ℕ}
use Prim.Native.Char.{code}
use mathlib.Core.Path.{◌≡◌, refl}
use mathlib.Core.Bool.{Bool, true, false, not, ◌&&◌, ◌||◌}
use mathlib.Core.List.{List, [], ◌∷◌}
use lib.Dec.{eqb}
use Rattle.std.specs.List.{list_any}
use Rattle.spec_octets.specs.Lists.{all}
use Rattle.spec_applicant.specs.Applicant.{is_account, is_method}

without_comma : (t : List ℕ) → not (list_any (λ x. eqb x (code ",")) t) ≡ all (λ x. not (eqb x (code ","))) t
without_comma [] = refl
without_comma (x ∷ t) = go (eqb x (code ",")) (without_comma t)
  where
    go :
        (b : Bool) → not (list_any (λ x. eqb x (code ",")) t) ≡ all (λ x. not (eqb x (code ","))) t →
        not (b || list_any (λ x. eqb x (code ",")) t) ≡ not b && all (λ x. not (eqb x (code ","))) t
    go true h = refl
    go false h = h

module _ (t : List ℕ) (a : Bool) (told : a ≡ is_account t) where
  pub no_account : a ≡ false → false ≡ is_method t
  unfolding is_method
  no_account e = rw (← told, e)

  pub method_by_comma : a ≡ true → (r : Bool) → r ≡ list_any (λ x. eqb x (code ",")) t → not r ≡ is_method t
  unfolding is_method
  method_by_comma e r h = rw (← told, e, h) (without_comma t)
