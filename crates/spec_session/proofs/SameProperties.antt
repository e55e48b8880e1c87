-- What CAA says depends on the properties of the records found, in their order. Their numbers and owners only show in the numbers told.
use Prim.Native.Nat.{ℕ}
use mathlib.Core.Path.{◌≡◌, refl, ap, sym, ◌∙◌}
use mathlib.Core.Bool.{Bool, true, false, cond}
use mathlib.Core.List.{List, [], ◌∷◌, map}
use Rattle.spec_octets.specs.Lists.{select}
use Rattle.spec_octets.proofs.SelectLaws.{select_map}
use Rattle.spec_record.specs.Property.{Property}
use Rattle.spec_applicant.specs.Applicant.{Applicant}
use Rattle.spec_rule.specs.declared.Judgement.TheVariants.{Permitted}
use Rattle.spec_rule.specs.RelevantSet.{CaaRecord, Lookup, found}
use Rattle.spec_rule.specs.Authorizations.{Authorization, unrestricted, forbidden, granted, unresolved, is_unknown_critical, is_issue, is_issue_wild, or_else, governing, grantee, grantees, governed_by, unless_forbidden, authorization_from, permits}
use Rattle.spec_rule.specs.Verdicts.{denied, verdict}
use Rattle.spec_rule.specs.Theorems.{renumbered_authorization, renumbered_verdict}
use Rattle.spec_session.specs.Steps.{decided_from}
use Rattle.spec_session.specs.Meaning.{properties_of}
use Rattle.spec_session.proofs.SameLookups.{Alike, both_empty, both_found, both_endless}

-- a record of which the property alone is left
abbrev bare : Property → CaaRecord
bare p = record { number = 0; owner = []; property = p }

abbrev stripped : CaaRecord → CaaRecord
stripped r = bare r.property

abbrev strip : List CaaRecord → List CaaRecord
strip rs = map stripped rs

abbrev unnumbered : Authorization → Authorization
unnumbered a = renumbered_authorization (λ r. 0) a

strips : (rs : List CaaRecord) → strip rs ≡ map bare (properties_of rs)
strips [] = refl
strips (r ∷ rs) = ap (◌∷◌ (stripped r)) (strips rs)

strip_select : (p : CaaRecord → Bool) → ((r : CaaRecord) → p (stripped r) ≡ p r) → (rs : List CaaRecord) → select p (strip rs) ≡ strip (select p rs)
strip_select p h rs = select_map stripped p p h rs

strip_else : (rs qs : List CaaRecord) → or_else (strip rs) (strip qs) ≡ strip (or_else rs qs)
strip_else [] qs = refl
strip_else (r ∷ rs) qs = refl

strip_governing : (wildcard : Bool) (rs : List CaaRecord) → governing wildcard (strip rs) ≡ strip (governing wildcard rs)
unfolding governing
strip_governing true rs =
    rw (strip_select is_issue_wild (λ r. refl) rs, strip_select is_issue (λ r. refl) rs) (strip_else (select is_issue_wild rs) (select is_issue rs))
strip_governing false rs = strip_select is_issue (λ r. refl) rs

module _ (who : Applicant) where
  strip_grantees : (gs : List CaaRecord) → grantees who (strip gs) ≡ grantees who gs
  unfolding grantee
  strip_grantees [] = refl
  strip_grantees (g ∷ gs) = rw (strip_grantees gs)

  strip_governed : (gs : List CaaRecord) → governed_by who (strip gs) ≡ unnumbered (governed_by who gs)
  strip_governed [] = refl
  strip_governed (g ∷ gs) = rw (strip_grantees (g ∷ gs))

  strip_forbidden : (us : List CaaRecord) (a : Authorization) → unless_forbidden (strip us) (unnumbered a) ≡ unnumbered (unless_forbidden us a)
  strip_forbidden [] a = refl
  strip_forbidden (u ∷ us) a = refl

  strip_says : (wildcard : Bool) (rs : List CaaRecord) → authorization_from who wildcard (found (strip rs)) ≡ unnumbered (authorization_from who wildcard (found rs))
  unfolding is_unknown_critical
  strip_says wildcard rs =
      rw (strip_select is_unknown_critical (λ r. refl) rs, strip_governing wildcard rs, strip_governed (governing wildcard rs))
      (strip_forbidden (select is_unknown_critical rs) (governed_by who (governing wildcard rs)))

  says_alike : (wildcard : Bool) {l m : Lookup} → Alike l m → unnumbered (authorization_from who wildcard l) ≡ unnumbered (authorization_from who wildcard m)
  says_alike wildcard both_empty = refl
  says_alike wildcard (both_found {rs} {qs} e) =
      sym (strip_says wildcard rs)
      ∙ ap (λ ps. authorization_from who wildcard (found ps)) (strips rs ∙ ap (map bare) e ∙ sym (strips qs))
      ∙ strip_says wildcard qs
  says_alike wildcard both_endless = refl

-- a verdict on one name without its record number
one_verdict :
    (d : List ℕ) (u : ℕ) (a : Authorization) →
    renumbered_verdict (λ r. 0) (verdict d (record { says = a; up = u } ∷ [])) ≡ verdict d (record { says = unnumbered a; up = u } ∷ [])
unfolding verdict
one_verdict d u unrestricted = refl
one_verdict d u (forbidden r) = refl
one_verdict d u (granted r ns) = go (permits d (granted r ns))
  where
    go :
        (t : Bool) → renumbered_verdict (λ r. 0) (cond t Permitted (denied 0 u (granted r ns))) ≡ cond t Permitted (denied 0 u (unnumbered (granted r ns)))
    go true = refl
    go false = refl
one_verdict d u (unresolved r) = refl

pub verdicts_alike :
    (d : List ℕ) (who : Applicant) (wildcard : Bool) (u : ℕ) {l m : Lookup} → Alike l m →
    renumbered_verdict (λ r. 0) (verdict d (decided_from who wildcard u l ∷ [])) ≡ renumbered_verdict (λ r. 0) (verdict d (decided_from who wildcard u m ∷ []))
verdicts_alike d who wildcard u {l} {m} h =
    one_verdict d u (authorization_from who wildcard l)
    ∙ ap (λ a. verdict d (record { says = a; up = u } ∷ [])) (says_alike who wildcard h)
    ∙ sym (one_verdict d u (authorization_from who wildcard m))
