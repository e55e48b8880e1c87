-- The walks over a set: what is left of it gives the answer, and a law for each way that the test of the next record goes.
use Rattle.std.specs.Prelude.{Option, Some, None}
use Prim.Native.Nat.{ℕ}
use mathlib.Core.Path.{◌≡◌, sym, ◌∙◌}
use mathlib.Core.Bool.{Bool, true, false, ◌||◌}
use mathlib.Core.List.{List}
use Rattle.spec_octets.specs.Lists.{any}
use Rattle.spec_refusal.specs.declared.RecordNo.{RecordNo}
use Rattle.spec_record.specs.declared.PropertyTag.{PropertyTag}
use Rattle.spec_applicant.specs.Applicant.{Applicant}
use Rattle.book_places.specs.Table.{owner_at, data_at}
use Rattle.book_places.specs.Chains.{behind}
use Rattle.book_places.specs.Sets.{owned_from, first_of, data_has_tag, data_is_unknown_critical, data_grants, in_set, first_unknown_critical, first_tagged, set_grants}
use Rattle.book_places.proofs.OwnedWalk.{Left, left_from, set_start, set_over, set_passed, set_taken}

-- the first record whose data passes a test
module _ (test : List ℕ → Bool) (book table links : List ℕ) (first : ℕ) where
  abbrev pub FirstLeft : List ℕ → ℕ → Type 0
  FirstLeft = Left first_of test book table links first

  pub first_start : (x : List ℕ) → x ≡ owner_at book table first → FirstLeft x first
  first_start = set_start first_of test book table links first

  module _ (x : List ℕ) (i : ℕ) (left : FirstLeft x i) (o : Option RecordNo) (f : o ≡ first_of (owned_from book table links x i)) where
    first_over : o ≡ None → None ≡ first_of (in_set test book table links first)
    first_over = set_over first_of test book table links first x i left o f

    module _ (r : RecordNo) (g : o ≡ Some r) (d : List ℕ) (told : d ≡ data_at book table r.0) (t : Bool) (s : t ≡ test d) where
      first_found_lem : t ≡ true → Some r ≡ first_of (in_set test book table links first)
      first_found_lem e = sym (set_taken first_of test book table links first x i left o f r g d told t s e)

      pub first_passed : t ≡ false → (j : ℕ) → j ≡ behind links r.0 → FirstLeft x j
      first_passed e j b = rw b (set_passed first_of test book table links first x i left o f r g d told t s e)

module _ (book table links : List ℕ) (first : ℕ) where
  module _ (x : List ℕ) (i : ℕ) (left : FirstLeft data_is_unknown_critical book table links first x i) (o : Option RecordNo)
      (f : o ≡ first_of (owned_from book table links x i)) where
    pub none_critical : o ≡ None → None ≡ first_unknown_critical book table links first
    unfolding first_unknown_critical
    none_critical = first_over data_is_unknown_critical book table links first x i left o f

    module _ (r : RecordNo) (g : o ≡ Some r) (d : List ℕ) (told : d ≡ data_at book table r.0) (t : Bool) (s : t ≡ data_is_unknown_critical d) where
      pub critical_first : t ≡ true → Some r ≡ first_unknown_critical book table links first
      unfolding first_unknown_critical
      critical_first = first_found_lem data_is_unknown_critical book table links first x i left o f r g d told t s

module _ (tag : PropertyTag) (book table links : List ℕ) (first : ℕ) where
  module _ (x : List ℕ) (i : ℕ) (left : FirstLeft (data_has_tag tag) book table links first x i) (o : Option RecordNo)
      (f : o ≡ first_of (owned_from book table links x i)) where
    pub none_tagged : o ≡ None → None ≡ first_tagged tag book table links first
    unfolding first_tagged
    none_tagged = first_over (data_has_tag tag) book table links first x i left o f

    module _ (r : RecordNo) (g : o ≡ Some r) (d : List ℕ) (told : d ≡ data_at book table r.0) (t : Bool) (s : t ≡ data_has_tag tag d) where
      pub tagged_first : t ≡ true → Some r ≡ first_tagged tag book table links first
      unfolding first_tagged
      tagged_first = first_found_lem (data_has_tag tag) book table links first x i left o f r g d told t s

-- some record with the tag grants the issuer to the applicant where one of those that are left does
module _ (who : Applicant) (tag : PropertyTag) (issuer book table links : List ℕ) (first : ℕ) where
  abbrev granting : List ℕ → Bool
  granting = any (λ i. data_grants who issuer (data_at book table i))

  abbrev pub GrantsLeft : List ℕ → ℕ → Type 0
  GrantsLeft = Left granting (data_has_tag tag) book table links first

  pub grants_start : (x : List ℕ) → x ≡ owner_at book table first → GrantsLeft x first
  grants_start = set_start granting (data_has_tag tag) book table links first

  module _ (x : List ℕ) (i : ℕ) (left : GrantsLeft x i) (o : Option RecordNo) (f : o ≡ first_of (owned_from book table links x i)) where
    pub no_grant : o ≡ None → false ≡ set_grants who tag issuer book table links first
    unfolding set_grants
    no_grant = set_over granting (data_has_tag tag) book table links first x i left o f

    module _ (r : RecordNo) (g : o ≡ Some r) (d : List ℕ) (told : d ≡ data_at book table r.0) (t : Bool) (s : t ≡ data_has_tag tag d) where
      pub untagged_passed : t ≡ false → (j : ℕ) → j ≡ behind links r.0 → GrantsLeft x j
      untagged_passed e j b = rw b (set_passed granting (data_has_tag tag) book table links first x i left o f r g d told t s e)

      module _ (e : t ≡ true) (b : Bool) (h : b ≡ data_grants who issuer d) where
        tested :
            granting (in_set (data_has_tag tag) book table links first)
            ≡ b || granting (left_from granting (data_has_tag tag) book table links first x (behind links r.0))
        tested = set_taken granting (data_has_tag tag) book table links first x i left o f r g d told t s e ∙ rw (h, told)

        pub grant_found : b ≡ true → true ≡ set_grants who tag issuer book table links first
        unfolding set_grants
        grant_found k = sym (tested ∙ rw k)

        pub grantless_passed : b ≡ false → (j : ℕ) → j ≡ behind links r.0 → GrantsLeft x j
        grantless_passed k j l = rw l (tested ∙ rw k)
