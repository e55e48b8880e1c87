-- A law for each return of the functions that look for conflicts.
use Rattle.std.specs.Prelude.{Ok, Err, Option, Some, None}
use Prim.Native.Nat.{ℕ, suc, ◌≤◌, ◌<◌, ◌+◌, ◌-◌}
use native.Mathlib.Nat.{sub-zero}
use native.Mathlib.Numerals.{add-one}
use native.Mathlib.Omega.{arith}
use mathlib.Core.Path.{◌≡◌, ◌∙◌}
use mathlib.Core.Bool.{Bool, true, false, not, ◌||◌}
use mathlib.Core.List.{List}
use lib.Dec.{ltb}
use lib.ListN.{length}
use borrow.Author.Tests.{not-true, not-false, lt-ltb, le-ltb}
use Rattle.spec_refusal.specs.Checks.{checked}
use Rattle.spec_refusal.specs.declared.RecordNo.{RecordNo}
use Rattle.spec_refusal.specs.declared.Refusal.TheVariants.{AliasConflict}
use Rattle.spec_record.specs.Records.{conflict_at}
use Rattle.book_places.specs.declared.Kind.TheVariants.{CaaOrAlias}
use Rattle.book_places.specs.Table.{owner_at, is_alias_at}
use Rattle.book_places.specs.Sets.{is_of_kind, first_owned}
use Rattle.book_places.specs.Conflicts.{clashes_at, conflict_from}

-- clashes_at
module _ (book table links heads : List ℕ) (i : ℕ) (c : Bool) (e : c ≡ is_of_kind CaaOrAlias table i) where
  pub not_counting : not c ≡ true → false ≡ clashes_at book table links heads i
  unfolding clashes_at
  not_counting h = rw (← e, not-true c h)

  module _ (h : not c ≡ false) (o : Option RecordNo) (x : List ℕ) (f : o ≡ first_owned CaaOrAlias book table links heads x) (own : x ≡ owner_at book table i) where
    pub nothing_owned : o ≡ None → false ≡ clashes_at book table links heads i
    unfolding clashes_at
    nothing_owned g = rw (← e, not-false c h, ← own, ← f, g)

    module _ (r : RecordNo) (g : o ≡ Some r) where
      pub none_before : i ≤ r.0 → ltb r.0 i ≡ clashes_at book table links heads i
      unfolding clashes_at
      none_before l = rw (← e, not-false c h, ← own, ← f, g, le-ltb r.0 i l)

      pub one_before : r.0 < i → (a : Bool) → a ≡ is_alias_at table i || is_alias_at table r.0 → a ≡ clashes_at book table links heads i
      unfolding clashes_at
      one_before l a k = rw (← e, not-false c h, ← own, ← f, g, lt-ltb r.0 i l) k

-- the loop of check_conflicts: the first i records are not in conflict
module _ (book table links heads : List ℕ) where
  pub record Checked (i : ℕ) : Type 0 where
    pub within : i ≤ length links
    pub same : conflict_from book table links heads 0 (length links) ≡ conflict_from book table links heads i (length links - i)

  pub check_start : (i : ℕ) → i ≡ 0 → Checked i
  check_start i e = record { within = omega arith; same = rw (e, sub-zero) }

  module _ (i : ℕ) (w : Checked i) where
    pub all_checked : length links ≤ i → (Ok tt) ≡ checked (conflict_at (conflict_from book table links heads 0 (length links)))
    all_checked h = let none_left : length links - i ≡ 0 = omega arith in rw (w.same, none_left)

    module _ (h : i < length links) (r : Bool) (c : r ≡ clashes_at book table links heads i) where
      more_left : length links - i ≡ suc (length links - (i + 1))
      more_left = omega arith

      pub conflict_there :
          r ≡ true → Err (AliasConflict (record { 0 = i })) ≡ checked (conflict_at (conflict_from book table links heads 0 (length links)))
      conflict_there t = rw (w.same, more_left, ← c, t)

      pub check_on : r ≡ false → (j : ℕ) → j ≡ i + 1 → Checked j
      check_on t j e = record { within = omega arith; same = w.same ∙ rw (more_left, ← c, t, e, add-one) }
