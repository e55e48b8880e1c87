-- The verdict by a set that is asked.
use Prim.Native.Nat.{ℕ}
use mathlib.Core.Path.{◌≡◌}
use mathlib.Core.Bool.{Bool, true, false}
use mathlib.Core.List.{List}
use Rattle.spec_refusal.specs.declared.RecordNo.{RecordNo}
use Rattle.spec_applicant.specs.Applicant.{Applicant}
use Rattle.spec_rule.specs.declared.Judgement.TheVariants.{Permitted, UnknownCritical, NotGranted, TooManyAliases}
use Rattle.book_places.specs.declared.Governing.{Governing}
use Rattle.book_places.specs.declared.NameAuthorization.{NameAuthorization}
use Rattle.book_places.specs.declared.NameAuthorization.TheVariants.{Unrestricted, Forbidden, Governed, Unresolved}
use Rattle.book_places.specs.Sets.{set_grants}
use Rattle.book_places.specs.NameAuthorizations.{set_authorization}
use Rattle.book_places.proofs.AuthorizationLaws.{set_grants_lem}
use Rattle.judge_set.specs.BySet.{verdict_by_set}

module _ (who : Applicant) (issuer book table links : List ℕ) where
  -- a is what the set says
  module _ (k : ℕ) (set : RecordNo) (up : ℕ) (wildcard : Bool) (a : NameAuthorization) (d : a ≡ set_authorization book table links wildcard set) where
    pub by_unrestricted : a ≡ Unrestricted → Permitted ≡ verdict_by_set who issuer book table links k set up wildcard
    unfolding verdict_by_set
    by_unrestricted e = rw (← d, e)

    pub by_critical :
        (rr : RecordNo) → a ≡ Forbidden rr → UnknownCritical (record { name = record { 0 = k }; rr = rr; up = record { 0 = up } }) ≡ verdict_by_set who issuer book table links k set up wildcard
    unfolding verdict_by_set
    by_critical rr e = rw (← d, e)

    pub by_alias :
        (rr : RecordNo) → a ≡ Unresolved rr → TooManyAliases (record { name = record { 0 = k }; rr = rr; up = record { 0 = up } }) ≡ verdict_by_set who issuer book table links k set up wildcard
    unfolding verdict_by_set
    by_alias rr e = rw (← d, e)

    module _ (g : Governing) (e : a ≡ Governed g) (b : Bool) (q : b ≡ set_grants who g.tag issuer book table links g.set.0) where
      pub by_grant : b ≡ true → Permitted ≡ verdict_by_set who issuer book table links k set up wildcard
      unfolding verdict_by_set
      by_grant h = rw (← d, e, ← set_grants_lem who book table links issuer g.tag g.set.0, ← q, h)

      pub by_no_grant :
          b ≡ false → NotGranted (record { name = record { 0 = k }; rr = g.first; up = record { 0 = up } }) ≡ verdict_by_set who issuer book table links k set up wildcard
      unfolding verdict_by_set
      by_no_grant h = rw (← d, e, ← set_grants_lem who book table links issuer g.tag g.set.0, ← q, h)
