-- Whether an owner touches a name, found by the table, the chains and the column of aliases of a book. Names and the owner are in wire form.
use Rattle.std.specs.Prelude.{ℕ, zero, suc, Bool, false, cond, ◌||◌, List, eqb, length, drop, Option, Some, None}
use Rattle.spec_limits.specs.Limits.{max_aliases}
use Rattle.spec_refusal.specs.declared.RecordNo.{RecordNo}
use Rattle.spec_octets.specs.Octets.{equal_ignoring_case}
use Rattle.read_name.specs.Places.{parent_place}
use Rattle.book_places.specs.declared.Kind.TheVariants.{CaaOrAlias}
use Rattle.book_places.specs.Table.{data_at, is_alias_at}
use Rattle.book_places.specs.Sets.{first_owned, onward_at}

-- A test of a record that was found; false if none was.
abbrev pub if_found : Option RecordNo → (RecordNo → Bool) → Bool
if_found None test = false
if_found (Some r) test = test r

module _ (book table links onward owner : List ℕ) where
  -- From record r on, at most n aliases are followed: whether one of them leads to the owner.
  abbrev pub leads_within : ℕ → RecordNo → Bool
  leads_within zero r = false
  leads_within (suc n) r =
      cond (is_alias_at table r.0) (equal_ignoring_case owner (data_at book table r.0) || if_found (onward_at links onward r.0) (leads_within n)) false

  unfoldable pub leads_to : RecordNo → Bool
  leads_to r = leads_within max_aliases r

  module _ (heads : List ℕ) where
    -- The owner is x, or one of the first 8 aliases from x on leads to it. The first CAA record or alias of x is its alias, if it has one.
    unfoldable pub touches_at : List ℕ → Bool
    touches_at x = equal_ignoring_case owner x || if_found (first_owned CaaOrAlias book table links heads x) leads_to

    -- The same for the name that begins at an offset of s, its parent, and so on. At the root `parent_place` gives the offset itself, which ends the walk.
    abbrev pub touched_from : ℕ → List ℕ → ℕ → Bool
    touched_from zero s at = false
    touched_from (suc steps) s at =
        cond (eqb (parent_place s at) at) false (touches_at (drop at s) || touched_from steps s (parent_place s at))

    -- For the whole name s.
    unfoldable pub name_touched : List ℕ → Bool
    name_touched s = touched_from (length s) s 0
