-- The issuer that CAA data grants: a law for each way out of grants.
use Rattle.std.specs.Prelude.{None, Some, Option}
use Prim.Native.Nat.{ℕ, ◌-◌}
use mathlib.Core.Path.{◌≡◌, refl, sym, ◌∙◌}
use mathlib.Core.Bool.{Bool, true, false, cond}
use mathlib.Core.List.{List}
use lib.ListN.{length, take, drop}
use Rattle.spec_octets.specs.Octets.{same, lowered, equal_ignoring_case}
use Rattle.spec_octets.proofs.ListLaws.{alike}
use Rattle.spec_octets.proofs.Texts.{same_equal}
use Rattle.spec_octets.proofs.Walks.{rest_whole}
use Rattle.read_value.specs.declared.NameAt.{NameAt}
use Rattle.read_parameters.specs.Parameters.{parameters_behind}
use Rattle.spec_applicant.specs.Applicant.{Applicant}
use Rattle.spec_applicant.specs.Admission.{admits}
use Rattle.spec_rule.specs.Authorizations.{is_grantee}
use Rattle.read_grantee.specs.Places.{name_at, issuer_at}
use Rattle.read_grantee.proofs.Grantees.{nobody_named, issuer_granted}
use Rattle.book_places.specs.Sets.{data_grants}

same_either_way : (a b : List ℕ) → same a b ≡ same b a
same_either_way a b =
    alike (same a b) (same b a) (λ e. (same_equal b a).1 (sym ((same_equal a b).0 e)), λ e. (same_equal a b).1 (sym ((same_equal b a).0 e)))

-- o is the answer of issuer_in
module _ (who : Applicant) (d issuer : List ℕ) (o : Option NameAt) (f : o ≡ issuer_at d) where
  pub nobody : o ≡ None → false ≡ data_grants who issuer d
  unfolding data_grants
  nobody g = rw (nobody_named d o f g who)

  -- t is the answer of same_ignoring_case
  module _ (n : NameAt) (g : o ≡ Some n) (t : Bool) (h : t ≡ equal_ignoring_case (take (n.to - n.from) (drop n.from d)) issuer) where
    compared : t ≡ same (lowered issuer) (lowered (name_at d n))
    unfolding equal_ignoring_case
    compared = h ∙ same_either_way (lowered (name_at d n)) (lowered issuer)

    pub other_named : t ≡ false → t ≡ data_grants who issuer d
    unfolding data_grants
    other_named e = rw (e, issuer_granted d o f n g who) (go (admits who (parameters_behind (drop n.parameters d))))
      where
        go : (b : Bool) → false ≡ is_grantee (lowered issuer) (cond b (Some (lowered (name_at d n))) None)
        go true = sym e ∙ compared
        go false = refl

    pub limits_tested :
        t ≡ true → (x : List ℕ) → x ≡ take (length d - n.parameters) (drop n.parameters d) → (b : Bool) →
        b ≡ admits who (parameters_behind x) → b ≡ data_grants who issuer d
    unfolding data_grants
    limits_tested e x rest b test = rw (issuer_granted d o f n g who, ← rest_whole d n.parameters, ← rest, ← test) (go b)
      where
        go : (b : Bool) → b ≡ is_grantee (lowered issuer) (cond b (Some (lowered (name_at d n))) None)
        go true = sym e ∙ compared
        go false = refl
