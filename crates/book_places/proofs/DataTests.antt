-- The tests of CAA data, by the property that the data holds.
use Prim.Native.Nat.{ℕ}
use native.Mathlib.Omega.{arith}
use mathlib.Core.Path.{◌≡◌, refl}
use mathlib.Core.Logic.{◌↔◌}
use mathlib.Core.Bool.{true, false≢true, and-eq-true_iff}
use Rattle.spec_record.specs.declared.PropertyTag.{PropertyTag}
use Rattle.spec_record.specs.declared.PropertyTag.TheVariants.{Issue, IssueWild, Iodef, Unknown}
use Rattle.spec_record.specs.Property.{tag_of, is_critical}
use Rattle.spec_rule.specs.Authorizations.{is_unknown_tag}
use Rattle.read_grantee.proofs.Grantees.{grantee_of_data_lem}
use Rattle.book_places.specs.Sets.{same_tag, data_has_tag, data_is_unknown_critical, data_grants}
use Rattle.book_places.specs.Theorems.{TestsOfData}

same_tag_lem : (a b : PropertyTag) → (same_tag a b ≡ true) ↔ (b ≡ a)
same_tag_lem Issue Issue = (λ e. refl, λ e. refl)
same_tag_lem Issue IssueWild = (λ e. absurd (false≢true e), λ e. let z : ◌≡◌ {A = ℕ} 0 1 = cc in absurd (omega arith))
same_tag_lem Issue Iodef = (λ e. absurd (false≢true e), λ e. let z : ◌≡◌ {A = ℕ} 0 1 = cc in absurd (omega arith))
same_tag_lem Issue Unknown = (λ e. absurd (false≢true e), λ e. let z : ◌≡◌ {A = ℕ} 0 1 = cc in absurd (omega arith))
same_tag_lem IssueWild Issue = (λ e. absurd (false≢true e), λ e. let z : ◌≡◌ {A = ℕ} 0 1 = cc in absurd (omega arith))
same_tag_lem IssueWild IssueWild = (λ e. refl, λ e. refl)
same_tag_lem IssueWild Iodef = (λ e. absurd (false≢true e), λ e. let z : ◌≡◌ {A = ℕ} 0 1 = cc in absurd (omega arith))
same_tag_lem IssueWild Unknown = (λ e. absurd (false≢true e), λ e. let z : ◌≡◌ {A = ℕ} 0 1 = cc in absurd (omega arith))
same_tag_lem Iodef Issue = (λ e. absurd (false≢true e), λ e. let z : ◌≡◌ {A = ℕ} 0 1 = cc in absurd (omega arith))
same_tag_lem Iodef IssueWild = (λ e. absurd (false≢true e), λ e. let z : ◌≡◌ {A = ℕ} 0 1 = cc in absurd (omega arith))
same_tag_lem Iodef Iodef = (λ e. refl, λ e. refl)
same_tag_lem Iodef Unknown = (λ e. absurd (false≢true e), λ e. let z : ◌≡◌ {A = ℕ} 0 1 = cc in absurd (omega arith))
same_tag_lem Unknown Issue = (λ e. absurd (false≢true e), λ e. let z : ◌≡◌ {A = ℕ} 0 1 = cc in absurd (omega arith))
same_tag_lem Unknown IssueWild = (λ e. absurd (false≢true e), λ e. let z : ◌≡◌ {A = ℕ} 0 1 = cc in absurd (omega arith))
same_tag_lem Unknown Iodef = (λ e. absurd (false≢true e), λ e. let z : ◌≡◌ {A = ℕ} 0 1 = cc in absurd (omega arith))
same_tag_lem Unknown Unknown = (λ e. refl, λ e. refl)

pub tests_of_data : TestsOfData
unfolding data_has_tag data_is_unknown_critical data_grants
tests_of_data d = (
  λ p e. (
    λ tag. rw e (same_tag_lem tag (tag_of p.tag)),
    rw e (
      λ h. let k = (and-eq-true_iff (is_critical p) (is_unknown_tag (tag_of p.tag))).0 h in (k.0, (same_tag_lem Unknown (tag_of p.tag)).0 k.1),
      λ h. (and-eq-true_iff (is_critical p) (is_unknown_tag (tag_of p.tag))).1 (h.0, (same_tag_lem Unknown (tag_of p.tag)).1 h.1),
    ),
  ),
  λ e. (λ tag. rw e, rw e, λ who issuer. rw ((grantee_of_data_lem who d).1 e)),
)
