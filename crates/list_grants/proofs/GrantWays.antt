-- next_grant: the records that the walk has passed do not change the first grant; a law for each way out.
use Rattle.std.specs.Prelude.{Option, Some, None}
use Prim.Native.Nat.{ℕ}
use mathlib.Core.Path.{◌≡◌, sym, ◌∙◌}
use mathlib.Core.Bool.{Bool, true, false, not}
use mathlib.Core.List.{List}
use borrow.Author.Tests.{not-true, not-false}
use Rattle.spec_refusal.specs.declared.RecordNo.{RecordNo}
use Rattle.read_value.specs.declared.NameAt.{NameAt}
use Rattle.spec_applicant.specs.Applicant.{Applicant}
use Rattle.read_grantee.specs.Places.{grantee_at}
use Rattle.book_places.specs.Table.{cell, owner_at, data_at}
use Rattle.book_places.specs.Chains.{behind}
use Rattle.book_places.specs.Sets.{owned_from, first_of, data_has_tag}
use Rattle.book_places.proofs.OwnedWalk.{owned_over, owned_on}
use Rattle.list_places.specs.declared.TaggedSet.{TaggedSet}
use Rattle.list_places.specs.declared.Grant.{Grant}
use Rattle.list_places.specs.Grants.{grant_in, grants_of, grants_from, first_grant}

module _ (who : Applicant) (book table links : List ℕ) (s : TaggedSet) (from : ℕ) where
  -- x is the owner of the set
  abbrev pub Left : List ℕ → ℕ → Type 0
  Left x at = first_grant (grants_from who book table links s from) ≡ first_grant (grants_of who book table s.tag (owned_from book table links x at))

  pub walk_start : (x : List ℕ) → x ≡ owner_at book table s.set → Left x from
  unfolding grants_from
  walk_start x e = rw e

  module _ (x : List ℕ) (at : ℕ) (left : Left x at) (o : Option RecordNo) (f : o ≡ first_of (owned_from book table links x at)) where
    pub no_grant : o ≡ None → None ≡ first_grant (grants_from who book table links s from)
    no_grant g = sym (left ∙ rw (owned_over book table links x at o f g))

    -- d is the data of the next record, t whether it has the tag
    module _ (r : RecordNo) (g : o ≡ Some r) (d : List ℕ) (told : d ≡ data_at book table r.0) (t : Bool) (tagged : t ≡ data_has_tag s.tag d) where
      pub untagged : not t ≡ true → (j : ℕ) → j ≡ behind links r.0 → Left x j
      untagged e j b = left ∙ rw (b, owned_on book table links x at o f r g, ← told, ← tagged, not-true t e)

      module _ (e : not t ≡ false) (q : Option NameAt) (read : q ≡ grantee_at who d) where
        pub nobody : q ≡ None → (j : ℕ) → j ≡ behind links r.0 → Left x j
        nobody k j b = left ∙ rw (b, owned_on book table links x at o f r g, ← told, ← tagged, not-false t e, ← read, k)

        pub somebody :
            (n : NameAt) → q ≡ Some n → (offset : ℕ) → offset ≡ cell table r.0 2 → (z : Grant) → z ≡ grant_in r.0 offset n →
            Some z ≡ first_grant (grants_from who book table links s from)
        somebody n k offset b z h = rw (h, b) (sym (left ∙ rw (owned_on book table links x at o f r g, ← told, ← tagged, not-false t e, ← read, k)))
