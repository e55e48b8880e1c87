-- Sequences of octets of one class: what *(class) matches, white space, classes without white space, optional parts.
use Prim.Native.Nat.{ℕ}
use Prim.Native.Char.{code}
use mathlib.Core.Path.{◌≡◌, refl}
use mathlib.Core.Logic.{◌⊎◌, inl, inr}
use mathlib.Core.Bool.{Bool, true, false}
use mathlib.Core.List.{List, [], ◌∷◌}
use lib.Dec.{eqb}
use borrow.Author.Tests.{eqb-true}
use Rattle.spec_octets.specs.Lists.{All, all_nil, all_cons}
use Rattle.spec_octets.specs.Octets.{is_blank}
use Rattle.spec_octets.specs.Grammar.{one, many, many_none, many_more}
use Rattle.spec_octets.specs.Pinned.{OptionalForm}
use Rattle.spec_octets.proofs.ListLaws.{told_apart, or_eq_true, not_passed}

-- every octet is of the class
abbrev pub Of : (ℕ → Bool) → List ℕ → Type 0
Of p s = All (λ x. p x ≡ true) s

abbrev pub Blank : List ℕ → Type 0
Blank s = Of is_blank s

abbrev pub Blankless : List ℕ → Type 0
Blankless s = All (λ x. is_blank x ≡ false) s

module _ {p : ℕ → Bool} where
  pub many_of : {s : List ℕ} → many (one p) s → Of p s
  many_of many_none = all_nil
  many_of (many_more a b e o more) = rw (e, o.1) (all_cons o.2 (many_of more))

  pub of_many : {s : List ℕ} → Of p s → many (one p) s
  of_many all_nil = many_none
  of_many (all_cons {x} {xs} h hs) = many_more (x ∷ []) xs refl (x, refl, h) (of_many hs)

-- a class that holds neither space nor tab
pub not_blank : (p : ℕ → Bool) → p (code " ") ≡ false → p (code "\t") ≡ false → (x : ℕ) → p x ≡ true → is_blank x ≡ false
unfolding is_blank
not_blank p space tab x passes = not_passed (is_blank x) (λ e. go ((or_eq_true (eqb x (code " ")) (eqb x (code "\t"))).0 e))
  where
    go : (eqb x (code " ") ≡ true) ⊎ (eqb x (code "\t") ≡ true) → ⊥
    go (inl e) = told_apart p (code " ") space x passes (eqb-true x (code " ") e)
    go (inr e) = told_apart p (code "\t") tab x passes (eqb-true x (code "\t") e)

pub optional_form : OptionalForm
optional_form p s = (λ h. h, λ h. h)
