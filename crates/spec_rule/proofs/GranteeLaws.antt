-- The grantees of records: well-formed names in lower case, in the order of the records that first grant them.
use Rattle.std.proofs.lemmas.Option.{none-some, same_Some}
use Rattle.std.specs.Prelude.{Option, None, Some}
use Prim.Native.Nat.{ℕ}
use mathlib.Core.Path.{◌≡◌, refl, sym, ap, ◌∙◌}
use mathlib.Core.Logic.Iff
use mathlib.Core.Logic.{◌↔◌}
use mathlib.Core.Bool.{Bool, true, false, cond, ◌||◌, false≢true}
use mathlib.Core.List.{List, [], ◌∷◌}
use Rattle.spec_octets.specs.Lists.{any, All, all_nil, all_cons}
use Rattle.spec_octets.specs.Octets.{same, lowered}
use Rattle.spec_octets.proofs.Texts.{same_equal}
use Rattle.spec_octets.proofs.SmallLetters.{lowered_twice}
use Rattle.spec_issuer.specs.Issuer.{WellFormed}
use Rattle.spec_issuer.proofs.Dotted.{issuer_is_its_labels}
use Rattle.spec_issuer.proofs.AnyCase.{issuer_in_any_case}
use Rattle.spec_applicant.specs.Applicant.{Applicant}
use Rattle.spec_rule.specs.RelevantSet.{CaaRecord}
use Rattle.spec_rule.specs.Authorizations.{grantee, is_grantee, cons_some, grantees}
use Rattle.spec_rule.specs.Meaning.{Grants, GrantedBefore}
use Rattle.spec_rule.proofs.AuthorizationLaws.{grantee_exactly}
use Rattle.spec_rule.proofs.OrderLaws.{first_before, Decides, first_before_exactly}

-- an issuer name in small letters
abbrev pub SmallName : List ℕ → Type 0
SmallName n = WellFormed n × (lowered n ≡ n)

module _ (who : Applicant) where
  granted_small : (d : List ℕ) (r : CaaRecord) → Grants who d r → SmallName d
  granted_small d r (n, ps, v, w, e, admitted) =
      rw (← e) ((issuer_is_its_labels (lowered n)).0 (issuer_in_any_case n ∙ (issuer_is_its_labels n).1 w), lowered_twice n)

  pub grantees_small : (gs : List CaaRecord) → All SmallName (grantees who gs)
  grantees_small [] = all_nil
  grantees_small (g ∷ gs) = go (grantee who g) refl (grantees_small gs)
    where
      go : (o : Option (List ℕ)) → grantee who g ≡ o → All SmallName (grantees who gs) → All SmallName (cons_some o (grantees who gs))
      go None e h = h
      go (Some n) e h = all_cons (granted_small n g ((grantee_exactly who g n).0 e)) h

  is_grantee_lem : (d : List ℕ) (o : Option (List ℕ)) → (is_grantee d o ≡ true) ↔ (o ≡ Some d)
  is_grantee_lem d None = (λ e. absurd (false≢true e), λ e. absurd (none-some d e))
  is_grantee_lem d (Some n) = (λ e. ap Some (sym ((same_equal d n).0 e)), λ e. (same_equal d n).1 (sym (same_Some n d e)))

  abbrev grants_to : List ℕ → CaaRecord → Bool
  grants_to d r = is_grantee d (grantee who r)

  grants_to_lem : (d : List ℕ) → Decides (grants_to d) (Grants who d)
  grants_to_lem d r = Iff.trans (is_grantee_lem d (grantee who r)) (grantee_exactly who r d)

  pub one_more_lem : (d : List ℕ) (o : Option (List ℕ)) (ns : List (List ℕ)) → any (same d) (cons_some o ns) ≡ is_grantee d o || any (same d) ns
  one_more_lem d None ns = refl
  one_more_lem d (Some n) ns = refl

  module _ (a b : List ℕ) where
    any_grantees : (gs : List CaaRecord) → any (same b) (grantees who gs) ≡ any (grants_to b) gs
    any_grantees [] = refl
    any_grantees (g ∷ gs) = one_more_lem b (grantee who g) (grantees who gs) ∙ rw (any_grantees gs)

    first_before_grantees : (gs : List CaaRecord) → first_before (same a) (same b) (grantees who gs) ≡ first_before (grants_to a) (grants_to b) gs
    first_before_grantees [] = refl
    first_before_grantees (g ∷ gs) = go (grantee who g) (first_before_grantees gs)
      where
        go :
            (o : Option (List ℕ)) → first_before (same a) (same b) (grantees who gs) ≡ first_before (grants_to a) (grants_to b) gs →
            first_before (same a) (same b) (cons_some o (grantees who gs))
            ≡ cond (is_grantee b o) false (cond (is_grantee a o) (any (grants_to b) gs) (first_before (grants_to a) (grants_to b) gs))
        go None rest = rest
        go (Some n) rest = rw (rest, any_grantees gs)

    pub granted_before : (gs : List CaaRecord) → (first_before (same a) (same b) (grantees who gs) ≡ true) ↔ GrantedBefore who gs a b
    granted_before gs = rw (first_before_grantees gs) (first_before_exactly (grants_to a) (grants_to b) (grants_to_lem a) (grants_to_lem b) gs)
