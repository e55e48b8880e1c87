-- Where following aliases ends, and when it does not.
use Rattle.std.proofs.lemmas.Option.{none-some, same_Some}
use Rattle.std.specs.Prelude.{None, Some}
use Prim.Native.Nat.{ℕ, zero, suc, ◌≤◌}
use native.Mathlib.Omega.{arith}
use mathlib.Core.Path.{◌≡◌, refl, sym, ap, ◌∙◌}
use mathlib.Core.Logic.{◌↔◌, ◌⊎◌, inl, inr, ⊎_elim}
use mathlib.Core.List.{List, [], ◌∷◌, nil≢cons, cons≢nil, head-eq_of_cons-eq}
use Rattle.spec_octets.specs.Lists.{All, First, Selects}
use Rattle.spec_octets.proofs.SelectLaws.{selected, selects_none, selects_first, first_selects}
use Rattle.spec_name.specs.Names.{Name}
use Rattle.spec_name.proofs.WholeNames.{whole_names}
use Rattle.spec_rule.specs.Aliases.{Alias, aliases_of, through, followed}
use Rattle.spec_rule.specs.Meaning.{AliasOf, Leads, arrived, onward}

module _ (al : List Alias) where
  alias_selects : (x : Name) → Selects (AliasOf x) al (aliases_of al x)
  alias_selects x = selected _ (λ a. whole_names.0 a.owner x) al

  abbrev NoAlias : Name → Type 0
  NoAlias x = All (λ a. AliasOf x a → ⊥) al

  pub no_alias : (x : Name) → aliases_of al x ≡ [] → NoAlias x
  no_alias x e = (selects_none (alias_selects x)).0 e

  pub first_alias : (x : Name) {a : Alias} {bs : List Alias} → aliases_of al x ≡ a ∷ bs → First (AliasOf x) al a
  first_alias x e = selects_first (alias_selects x) e

  -- the first alias of a name is the one that is followed
  pub the_first : (x : Name) {a b : Alias} {bs : List Alias} → aliases_of al x ≡ a ∷ bs → First (AliasOf x) al b → b ≡ a
  the_first x e f = let (bs, g) = first_selects (alias_selects x) f in head-eq_of_cons-eq (sym g ∙ e)

  pub has_alias : (x : Name) {a : Alias} → aliases_of al x ≡ [] → First (AliasOf x) al a → ⊥
  has_alias x e f = let (bs, g) = first_selects (alias_selects x) f in cons≢nil (sym g ∙ e)

  has_none : (x : Name) {a : Alias} {bs : List Alias} → aliases_of al x ≡ a ∷ bs → NoAlias x → ⊥
  has_none x e n = nil≢cons (sym ((selects_none (alias_selects x)).1 n) ∙ e)

  -- x is y, or an alias is followed
  abbrev Step : ℕ → Name → Name → Type 0
  Step k x y = ((k ≡ 0) × (x ≡ y)) ⊎ ((j : ℕ) × (a : Alias) × (k ≡ suc j) × First (AliasOf x) al a × Leads al j a.target y)

  step : {k : ℕ} {x y : Name} → Leads al k x y → Step k x y
  step arrived = inl (refl, refl)
  step (onward {k} {a = a} f l) = inr (k, a, refl, f, l)

  -- at most n aliases lead from x to y, which has none
  abbrev Ends : ℕ → Name → Name → Type 0
  Ends n x y = (k : ℕ) × (k ≤ n) × Leads al k x y × NoAlias y

  ends_here : (n : ℕ) (x y : Name) → aliases_of al x ≡ [] → (Some x ≡ Some y) ↔ Ends n x y
  ends_here n x y e = (
    λ h. let i = same_Some x y h in (0, omega arith, rw (← i) arrived, rw (← i) (no_alias x e)),
    λ (k, h, l, m). ⊎_elim (λ (z, i). ap Some i) (λ (j, a, z, f, t). absurd (has_alias x e f)) (step l),
  )

  pub followed_ends : (n : ℕ) (x y : Name) → (followed n al x ≡ Some y) ↔ Ends n x y
  followed_ends zero x y = go (aliases_of al x) refl
    where
      go : (bs : List Alias) → aliases_of al x ≡ bs → (through bs (λ t. None) x ≡ Some y) ↔ Ends zero x y
      go [] e = ends_here zero x y e
      go (a ∷ bs) e = (
        λ h. absurd (none-some y h),
        λ (k, h, l, m). ⊎_elim (λ (z, i). absurd (has_none x e (rw (← i) at m))) (λ (j, b, z, f, t). absurd (omega arith)) (step l),
      )
  followed_ends (suc n) x y = go (aliases_of al x) refl (λ t. followed_ends n t y)
    where
      go :
          (bs : List Alias) → aliases_of al x ≡ bs → ((t : Name) → (followed n al t ≡ Some y) ↔ Ends n t y) →
          (through bs (followed n al) x ≡ Some y) ↔ Ends (suc n) x y
      go [] e later = ends_here (suc n) x y e
      go (a ∷ bs) e later = (
        λ h. let (k, less, l, m) = (later a.target).0 h in (suc k, omega arith, onward (first_alias x e) l, m),
        λ (k, h, l, m). ⊎_elim
            (λ (z, i). absurd (has_none x e (rw (← i) at m)))
            (λ (j, b, z, f, t). (later a.target).1 (j, omega arith, rw (the_first x e f) at t, m))
            (step l),
      )

  -- an alias leads from x on
  abbrev LeadsOn : ℕ → Name → Type 0
  LeadsOn n x = (y : Name) × Leads al (suc n) x y

  ends_there : (n : ℕ) (x : Name) → aliases_of al x ≡ [] → (Some x ≡ None) ↔ LeadsOn n x
  ends_there n x e = (
    λ h. absurd (none-some x (sym h)),
    λ (y, l). ⊎_elim (λ (z, i). absurd (omega arith)) (λ (j, a, z, f, t). absurd (has_alias x e f)) (step l),
  )

  pub followed_endless : (n : ℕ) (x : Name) → (followed n al x ≡ None) ↔ LeadsOn n x
  followed_endless zero x = go (aliases_of al x) refl
    where
      go : (bs : List Alias) → aliases_of al x ≡ bs → (through bs (λ t. None) x ≡ None) ↔ LeadsOn zero x
      go [] e = ends_there zero x e
      go (a ∷ bs) e = (λ h. (a.target, onward (first_alias x e) arrived), λ l. refl)
  followed_endless (suc n) x = go (aliases_of al x) refl (followed_endless n)
    where
      go :
          (bs : List Alias) → aliases_of al x ≡ bs → ((t : Name) → (followed n al t ≡ None) ↔ LeadsOn n t) →
          (through bs (followed n al) x ≡ None) ↔ LeadsOn (suc n) x
      go [] e later = ends_there (suc n) x e
      go (a ∷ bs) e later = (
        λ h. let (y, l) = (later a.target).0 h in (y, onward (first_alias x e) l),
        λ (y, l). ⊎_elim
            (λ (z, i). absurd (omega arith))
            (λ (j, b, z, f, t). let k : j ≡ suc n = omega arith in (later a.target).1 (y, rw (the_first x e f, k) at t))
            (step l),
      )
