-- Tests of CAA data by its flags and tag: a law for each way out of is_unknown_critical and has_tag.
use Rattle.std.specs.Prelude.{Option, Some, None}
use Prim.Native.Nat.{ℕ, ◌≤◌, ◌<◌}
use native.Mathlib.Omega.{arith}
use mathlib.Core.Path.{◌≡◌, refl, ◌∙◌}
use mathlib.Core.Bool.{Bool, false, ◌&&◌}
use mathlib.Core.List.{List}
use lib.Dec.{eqb, leb}
use borrow.Author.Tests.{lt-leb}
use denote.Enum.Declared.{tag_of as variant}
use Rattle.spec_octets.proofs.ListLaws.{not_passed}
use Rattle.spec_record.specs.Property.{Property, is_critical, tag_of}
use Rattle.read_property.specs.Places.{property_at, tag_part}
use Rattle.read_property.specs.declared.PropertyAt.{PropertyAt}
use Rattle.spec_record.specs.declared.PropertyTag.{PropertyTag}
use Rattle.spec_record.specs.declared.PropertyTag.TheVariants.{Issue, IssueWild, Iodef, Unknown}
use Rattle.spec_record.specs.contracts.PropertyTag.{the_type}
use Rattle.spec_record.proofs.PropertyLaws.{critical_bit}
use Rattle.read_property.proofs.PropertyPlaces.{PropertyTo, property_there, no_property}
use Rattle.spec_rule.specs.Authorizations.{is_unknown_tag}
use Rattle.book_places.specs.Sets.{same_tag, data_is_unknown_critical, data_has_tag}

-- what `==` says of two tags
by_variant : (t tag : PropertyTag) → eqb (variant the_type t) (variant the_type tag) ≡ same_tag tag t
by_variant Issue tag = elim tag as (λ k. eqb (variant the_type Issue) (variant the_type k) ≡ same_tag k Issue) [ Issue ↦ refl | IssueWild ↦ refl | Iodef ↦ refl | Unknown ↦ refl ]
by_variant IssueWild tag = elim tag as (λ k. eqb (variant the_type IssueWild) (variant the_type k) ≡ same_tag k IssueWild) [ Issue ↦ refl | IssueWild ↦ refl | Iodef ↦ refl | Unknown ↦ refl ]
by_variant Iodef tag = elim tag as (λ k. eqb (variant the_type Iodef) (variant the_type k) ≡ same_tag k Iodef) [ Issue ↦ refl | IssueWild ↦ refl | Iodef ↦ refl | Unknown ↦ refl ]
by_variant Unknown tag = elim tag as (λ k. eqb (variant the_type Unknown) (variant the_type k) ≡ same_tag k Unknown) [ Issue ↦ refl | IssueWild ↦ refl | Iodef ↦ refl | Unknown ↦ refl ]

module _ (d : List ℕ) (o : Option PropertyAt) (f : o ≡ property_at d) where
  pub no_critical : o ≡ None → false ≡ data_is_unknown_critical d
  unfolding data_is_unknown_critical
  no_critical g = rw (no_property d o f g)

  pub no_tag : (tag : PropertyTag) → o ≡ None → false ≡ data_has_tag tag d
  unfolding data_has_tag
  no_tag tag g = rw (no_property d o f g)

  module _ (p : PropertyAt) (g : o ≡ Some p) where
    critical : (q : Property) → PropertyTo d p q → data_is_unknown_critical d ≡ is_critical q && is_unknown_tag (tag_of (tag_part d))
    unfolding data_is_unknown_critical tag_part
    critical q k = rw k.found

    pub low_flags : p.flags < 128 → leb 128 p.flags ≡ data_is_unknown_critical d
    low_flags h =
        let (q, k) = property_there d o f p g in
        rw (lt-leb 128 p.flags h, critical q k, not_passed (is_critical q) (λ e. omega (arith, k.flags, (critical_bit q (omega (arith, k.flags))).0 e)))

    module _ (y : List ℕ) (t : PropertyTag) (part : y ≡ tag_part d) (tag : t ≡ tag_of y) where
      -- flags are an octet, so the bit worth 128 is set from 128 on
      pub tag_asked :
          p.flags < 256 → 128 ≤ p.flags → (b : Bool) → b ≡ eqb (variant the_type t) (variant the_type Unknown) → b ≡ data_is_unknown_critical d
      tag_asked small h b e =
          let (q, k) = property_there d o f p g in
          rw (critical q k, ← part, ← tag, (critical_bit q (omega (arith, k.flags))).1 (omega (arith, k.flags))) (e ∙ by_variant t Unknown)

      pub tag_compared :
          (asked : PropertyTag) (b : Bool) → b ≡ eqb (variant the_type t) (variant the_type asked) → b ≡ data_has_tag asked d
      unfolding data_has_tag tag_part
      tag_compared asked b e = let (q, k) = property_there d o f p g in rw (e, by_variant t asked, tag, part, k.found)
