-- The verdict of the rule on what was found for one name, for an applicant and the issuer d, with u labels taken off.
use Prim.Native.Nat.{ℕ}
use mathlib.Core.Path.{◌≡◌, refl, ap, sym, ◌∙◌}
use mathlib.Core.Logic.{◌↔◌, ◌⊎◌, inl, inr}
use mathlib.Core.Bool.{Bool, true, false, cond, true≢false}
use mathlib.Core.List.{List, [], ◌∷◌}
use Rattle.spec_octets.specs.Lists.{select, All, Any, First, Selects}
use Rattle.spec_octets.specs.Octets.{lowered}
use Rattle.spec_octets.proofs.ListLaws.{not_passed}
use Rattle.spec_octets.proofs.SelectLaws.{selects_none, selects_first, first_selects, any_kept, any_of_kept}
use Rattle.spec_applicant.specs.Applicant.{Applicant}
use Rattle.spec_rule.specs.declared.Judgement.{Judgement}
use Rattle.spec_rule.specs.declared.Judgement.TheVariants.{Permitted, UnknownCritical, NotGranted, TooManyAliases, Refused}
use Rattle.spec_rule.specs.declared.Denial.{Denial}
use Rattle.spec_rule.specs.RelevantSet.{CaaRecord, Lookup, empty, found, endless}
use Rattle.spec_rule.specs.Authorizations.{Authorization, granted, is_unknown_critical, governing, grantees, governed_by, unless_forbidden, permits}
use Rattle.spec_rule.specs.Verdicts.{denial, denied, verdict}
use Rattle.spec_rule.specs.Meaning.{UnknownCriticalRecord, Governs, Grants}
use Rattle.spec_rule.proofs.AuthorizationLaws.{critical_selects, governing_selects, any_same, grantees_exactly}
use Rattle.spec_session.specs.Steps.{decided_from}
use Rattle.spec_session_words.specs.SessionDoor.{NoneCritical}

-- a denial is its three numbers
same_denial : (e : Denial) (k r v : ℕ) → k ≡ e.name.0 → r ≡ e.rr.0 → v ≡ e.up.0 → denial k r v ≡ e
same_denial e k r v a b c = rw (a, b, c)

module _ (who : Applicant) (wildcard : Bool) (d : List ℕ) (u : ℕ) where
  abbrev pub ruling : Lookup → Judgement
  ruling l = verdict d (decided_from who wildcard u l ∷ [])

  abbrev Granting : List CaaRecord → Type 0
  Granting rs = Any (λ r. Governs wildcard rs r × Grants who (lowered d) r) rs

  -- what a verdict says of the lookup
  abbrev pub Ruled : Lookup → Judgement → Type 0
  Ruled l Permitted =
      (l ≡ empty) ⊎ ((rs : List CaaRecord) × (l ≡ found rs) × NoneCritical rs × (All (λ r. Governs wildcard rs r → ⊥) rs ⊎ Granting rs))
  Ruled l (UnknownCritical e) =
      (e.name.0 ≡ 0) × (e.up.0 ≡ u)
      × ((rs : List CaaRecord) × (c : CaaRecord) × (l ≡ found rs) × First UnknownCriticalRecord rs c × (c.number ≡ e.rr.0))
  Ruled l (NotGranted e) =
      (e.name.0 ≡ 0) × (e.up.0 ≡ u)
      × ((rs : List CaaRecord) × (c : CaaRecord) × (l ≡ found rs) × NoneCritical rs × First (Governs wildcard rs) rs c
      × (Granting rs → ⊥) × (c.number ≡ e.rr.0))
  Ruled l (TooManyAliases e) = (e.name.0 ≡ 0) × (e.up.0 ≡ u) × (l ≡ endless e.rr.0)
  Ruled l (Refused r) = ⊥

  -- one of the governing records gs grants
  module _ {rs : List CaaRecord} {g : CaaRecord} {gs : List CaaRecord} (sel : Selects (Governs wildcard rs) rs (g ∷ gs)) where
    grants : permits d (granted g.number (grantees who (g ∷ gs))) ≡ true → Granting rs
    grants e = any_of_kept sel ((grantees_exactly who (g ∷ gs) (lowered d)).0 ((any_same (lowered d) (grantees who (g ∷ gs))).0 e))

    permitted : Granting rs → permits d (granted g.number (grantees who (g ∷ gs))) ≡ true
    permitted h = (any_same (lowered d) (grantees who (g ∷ gs))).1 ((grantees_exactly who (g ∷ gs) (lowered d)).1 (any_kept sel h))

  ruled : (l : Lookup) → Ruled l (ruling l)
  unfolding verdict
  ruled empty = inl refl
  ruled (endless r) = (refl, refl, refl)
  ruled (found rs) = by_critical (select is_unknown_critical rs) refl (governing wildcard rs) (governing_selects wildcard rs)
    where
      Says : Authorization → Type 0
      Says a = Ruled (found rs) (cond (permits d a) Permitted (denied 0 u a))

      by_grant :
          NoneCritical rs → (g : CaaRecord) (gs : List CaaRecord) → Selects (Governs wildcard rs) rs (g ∷ gs) →
          (t : Bool) → permits d (granted g.number (grantees who (g ∷ gs))) ≡ t →
          Ruled (found rs) (cond t Permitted (denied 0 u (granted g.number (grantees who (g ∷ gs)))))
      by_grant calm g gs sel true e = inr (rs, refl, calm, inr (grants sel e))
      by_grant calm g gs sel false e =
          (refl, refl, (rs, g, refl, calm, selects_first sel refl, λ h. true≢false (sym (permitted sel h) ∙ e), refl))

      by_critical :
          (us : List CaaRecord) → select is_unknown_critical rs ≡ us → (gs : List CaaRecord) → Selects (Governs wildcard rs) rs gs →
          Says (unless_forbidden us (governed_by who gs))
      by_critical (c ∷ us) e gs sel = (refl, refl, (rs, c, refl, selects_first (critical_selects rs) e, refl))
      by_critical [] e [] sel = inr (rs, refl, (selects_none (critical_selects rs)).0 e, inl ((selects_none sel).0 refl))
      by_critical [] e (g ∷ gs) sel =
          by_grant ((selects_none (critical_selects rs)).0 e) g gs sel (permits d (granted g.number (grantees who (g ∷ gs)))) refl

  -- where no record is critical with an unknown tag, those that govern decide
  calm_ruling :
      (rs : List CaaRecord) → NoneCritical rs → (gs : List CaaRecord) → governing wildcard rs ≡ gs →
      ruling (found rs) ≡ cond (permits d (governed_by who gs)) Permitted (denied 0 u (governed_by who gs))
  unfolding verdict
  calm_ruling rs calm gs e = rw ((selects_none (critical_selects rs)).1 calm, e) refl

  rules : (l : Lookup) (j : Judgement) → Ruled l j → ruling l ≡ j
  unfolding verdict
  rules l Permitted (inl e) = rw e refl
  rules l Permitted (inr (rs, e, calm, inl none-governs)) =
      rw e (calm_ruling rs calm [] ((selects_none (governing_selects wildcard rs)).1 none-governs))
  rules l Permitted (inr (rs, e, calm, inr h)) = rw e (by_governing (governing wildcard rs) refl)
    where
      by_governing : (gs : List CaaRecord) → governing wildcard rs ≡ gs → ruling (found rs) ≡ Permitted
      by_governing [] f = calm_ruling rs calm [] f
      by_governing (g ∷ gs) f =
          calm_ruling rs calm (g ∷ gs) f
          ∙ ap (λ t. cond t Permitted (denied 0 u (governed_by who (g ∷ gs)))) (permitted (rw f at (governing_selects wildcard rs)) h)
  rules l (UnknownCritical e) (k, v, (rs, c, f, first, r)) =
      let (us, sel) = first_selects (critical_selects rs) first in
      rw (f, sel) (ap UnknownCritical (same_denial e 0 c.number u (sym k) r (sym v)))
  rules l (NotGranted e) (k, v, (rs, c, f, calm, first, refused, r)) =
      let (gs, sel) = first_selects (governing_selects wildcard rs) first in
      let never = not_passed (permits d (granted c.number (grantees who (c ∷ gs)))) (λ t. refused (grants (rw sel at (governing_selects wildcard rs)) t)) in
      rw f (calm_ruling rs calm (c ∷ gs) sel
      ∙ ap (λ t. cond t Permitted (denied 0 u (governed_by who (c ∷ gs)))) never
      ∙ ap NotGranted (same_denial e 0 c.number u (sym k) r (sym v)))
  rules l (TooManyAliases e) (k, v, f) = rw f (ap TooManyAliases (same_denial e 0 e.rr.0 u (sym k) refl (sym v)))
  rules l (Refused r) h = absurd h

  -- the verdict is j exactly when the lookup is as j says
  pub ruled_exactly : (l : Lookup) (j : Judgement) → (ruling l ≡ j) ↔ Ruled l j
  ruled_exactly l j = (λ e. rw e at (ruled l), rules l j)
