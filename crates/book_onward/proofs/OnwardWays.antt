-- A law for each way of book_onward: the number of a first record, one more alias written down, one more alias followed, a lookup.
use Rattle.std.specs.Prelude.{Option, Some, None}
use Prim.Native.Nat.{ℕ, zero, suc, ◌+◌, ◌-◌, ◌%◌, ◌≤◌, ◌<◌}
use native.Mathlib.Omega.{arith}
use mathlib.Core.Path.{◌≡◌, refl, sym, ◌∙◌}
use mathlib.Core.Bool.{Bool, true, false}
use mathlib.Core.List.{List, [], ◌∷◌}
use lib.ListN.{length, get_or, set, get_or-eq_default}
use borrow.Author.Tests.{lt-ltb, le-ltb}
use Rattle.spec_limits.specs.Limits.{max_aliases}
use Rattle.spec_refusal.specs.declared.RecordNo.{RecordNo}
use Rattle.book_places.specs.declared.Kind.TheVariants.{CaaOrAlias}
use Rattle.book_places.specs.Table.{data_at, is_alias_at}
use Rattle.book_places.specs.Chains.{no_record}
use Rattle.book_places.specs.Sets.{first_owned, and_then, onward_at, resolved, resolved_from, looked_up_at}
use Rattle.book_places.specs.Onward.{number_found, pointed, pointed_below}
use Rattle.book_places.proofs.OnwardLaws.{pointed_length}

-- o is the first CAA record or alias
module _ (book table links heads x : List ℕ) (o : Option RecordNo) (is : o ≡ first_owned CaaOrAlias book table links heads x) where
  pub none_found : o ≡ None → 65535 ≡ number_found (first_owned CaaOrAlias book table links heads x) % 65536
  unfolding no_record
  none_found e = rw (← is, e)

  pub one_found : (r : RecordNo) → o ≡ Some r → r.0 % 65536 ≡ number_found (first_owned CaaOrAlias book table links heads x) % 65536
  one_found r e = rw (← is, e)

  module _ (onward : List ℕ) where
    pub nothing_there : o ≡ None → None ≡ looked_up_at book table links heads onward x
    unfolding looked_up_at
    nothing_there e = rw (← is, e)

    pub from_there : (r : RecordNo) (a : Option RecordNo) → o ≡ Some r → a ≡ resolved_from table links onward r → a ≡ looked_up_at book table links heads onward x
    unfolding looked_up_at
    from_there r a e f = rw (← is, e) f

module _ (book table links heads : List ℕ) (i : ℕ) (onward : List ℕ) (a : Bool) (is : a ≡ is_alias_at table i) where
  pub alias_pointed :
      a ≡ true → (d : List ℕ) (k : ℕ) (next : List ℕ) → d ≡ data_at book table i →
      k ≡ number_found (first_owned CaaOrAlias book table links heads d) % 65536 → next ≡ set onward i k → next ≡ pointed book table links heads i onward
  alias_pointed e d k next data_there number there = rw (← is, e) (there ∙ rw (number, data_there))

  pub other_passed : a ≡ false → onward ≡ pointed book table links heads i onward
  other_passed e = rw (← is, e)

-- the first i records are written down
module _ (book table links heads onward₀ : List ℕ) where
  abbrev pub Pointed : ℕ → List ℕ → Type 0
  Pointed i onward = onward ≡ pointed_below book table links heads i onward₀

  pub pointed_on : (i : ℕ) (onward next : List ℕ) → Pointed i onward → next ≡ pointed book table links heads i onward → Pointed (i + 1) next
  pointed_on i onward next inv e = let more : i + 1 ≡ suc i = omega arith in rw more (e ∙ rw inv)

  pub same_long : (i : ℕ) (onward : List ℕ) → Pointed i onward → length onward ≡ length onward₀
  same_long i onward inv = rw inv (pointed_length book table links heads i onward₀)

  pub all_pointed : (n i : ℕ) (onward : List ℕ) → i ≤ n → n ≤ i → Pointed i onward → onward ≡ pointed_below book table links heads n onward₀
  all_pointed n i onward h k inv = let same : i ≡ n = omega arith in rw same at inv

-- inside a list no default is read
inside : (s : List ℕ) (i d e : ℕ) → i < length s → get_or s i d ≡ get_or s i e
inside [] i d e h = absurd (omega arith)
inside (x ∷ s) zero d e h = refl
inside (x ∷ s) (suc i) d e h = inside s i d e (omega arith)

module _ (links onward : List ℕ) (i : ℕ) where
  pub no_number : length onward ≤ i → None ≡ onward_at links onward i
  no_number h = rw (get_or-eq_default onward (length links) h, le-ltb (length links) (length links) (omega arith))

  module _ (k : ℕ) (h : i < length onward) (read : k ≡ get_or onward i 0) where
    number : get_or onward i (length links) ≡ k
    number = inside onward i (length links) 0 h ∙ sym read

    pub no_record_lem : length links ≤ k → None ≡ onward_at links onward i
    no_record_lem l = rw (number, le-ltb k (length links) l)

    pub one_record : k < length links → Some (record { 0 = k }) ≡ onward_at links onward i
    one_record l = rw (number, lt-ltb k (length links) l)

-- with `left` aliases still to follow, from record r on
module _ (table links onward : List ℕ) (first : RecordNo) where
  abbrev pub Following : ℕ → ℕ → Type 0
  Following left r = resolved_from table links onward first ≡ resolved left table links onward first (record { 0 = r })

  pub at_first : Following max_aliases first.0
  unfolding resolved_from
  at_first = refl

  module _ (left r : ℕ) (inv : Following left r) (a : Bool) (is : a ≡ is_alias_at table r) where
    pub at_the_end : a ≡ false → Some (record { 0 = r }) ≡ resolved_from table links onward first
    at_the_end e = sym (inv ∙ go left)
      where
        go : (n : ℕ) → resolved n table links onward first (record { 0 = r }) ≡ Some (record { 0 = r })
        go zero = rw (← is, e)
        go (suc n) = rw (← is, e)

    pub too_many : a ≡ true → left ≡ 0 → Some first ≡ resolved_from table links onward first
    too_many e z = sym (inv ∙ rw (z, ← is, e))

    further : a ≡ true → (left ≡ 0 → ⊥) → (n : ℕ) × (left ≡ suc n) × (resolved_from table links onward first ≡ and_then (onward_at links onward r) (resolved n table links onward first))
    further e more = go left refl
      where
        go : (n : ℕ) → left ≡ n → (m : ℕ) × (left ≡ suc m) × (resolved_from table links onward first ≡ and_then (onward_at links onward r) (resolved m table links onward first))
        go zero z = absurd (more z)
        go (suc m) z = (m, z, inv ∙ rw (z, ← is, e))

    module _ (e : a ≡ true) (more : left ≡ 0 → ⊥) (o : Option RecordNo) (there : o ≡ onward_at links onward r) where
      pub leads_nowhere : o ≡ None → None ≡ resolved_from table links onward first
      leads_nowhere f = let (n, z, g) = further e more in sym (g ∙ rw (← there, f))

      pub followed_on : (next : RecordNo) → o ≡ Some next → Following (left - 1) next.0
      followed_on next f =
          let (n, z, g) = further e more in
          let less : left - 1 ≡ n = omega arith in
          rw less (g ∙ rw (← there, f))
