-- A law for each way of edit_reach: one more alias followed, a name, and one name after the other upward.
use Rattle.std.specs.Prelude.{Option, Some, None}
use Prim.Native.Nat.{ℕ, zero, suc, ◌+◌, ◌-◌, ◌≤◌}
use native.Mathlib.Omega.{arith}
use mathlib.Core.Path.{◌≡◌, refl, sym, ap, ◌∙◌}
use mathlib.Core.Bool.{Bool, true, false, ◌||◌}
use mathlib.Core.List.{List}
use lib.ListN.{length, take, drop}
use borrow.Author.Tests.{eq-eqb, ne_eqb}
use Rattle.spec_limits.specs.Limits.{max_aliases}
use Rattle.spec_refusal.specs.declared.RecordNo.{RecordNo}
use Rattle.spec_octets.specs.Octets.{equal_ignoring_case}
use Rattle.spec_octets.proofs.Walks.{rest_whole}
use Rattle.read_name.specs.Places.{parent_place}
use Rattle.read_name.proofs.Parents.{further}
use Rattle.book_places.specs.declared.Kind.TheVariants.{CaaOrAlias}
use Rattle.book_places.specs.Table.{data_at, is_alias_at}
use Rattle.book_places.specs.Sets.{first_owned, onward_at}
use Rattle.edit_places.specs.Reach.{if_found, leads_within, leads_to, touches_at, touched_from, name_touched}

-- with `left` aliases still to follow, from record r on
module _ (book table links onward owner : List ℕ) (first : RecordNo) where
  abbrev pub Leading : ℕ → ℕ → Type 0
  Leading left r = leads_to book table links onward owner first ≡ leads_within book table links onward owner left (record { 0 = r })

  pub leads_start : Leading max_aliases first.0
  unfolding leads_to
  leads_start = refl

  module _ (left r : ℕ) (inv : Leading left r) where
    module _ (a : Bool) (is : a ≡ is_alias_at table r) where
      pub no_alias : a ≡ false → false ≡ leads_to book table links onward owner first
      no_alias e = sym (inv ∙ go left)
        where
          go : (n : ℕ) → leads_within book table links onward owner n (record { 0 = r }) ≡ false
          go zero = refl
          go (suc n) = rw (← is, e) refl

      pub none_left : a ≡ true → left ≡ 0 → false ≡ leads_to book table links onward owner first
      none_left e z = sym (inv ∙ rw z refl)

      module _ (e : a ≡ true) (more : left ≡ 0 → ⊥) (d : List ℕ) (there : d ≡ data_at book table r) (s : Bool) (same : s ≡ equal_ignoring_case owner d) where
        abbrev Onward : ℕ → Type 0
        Onward n =
            leads_to book table links onward owner first
            ≡ s || if_found (onward_at links onward r) (leads_within book table links onward owner n)

        one_less : (n : ℕ) × (left ≡ suc n) × Onward n
        one_less = go left refl
          where
            go : (n : ℕ) → left ≡ n → (m : ℕ) × (left ≡ suc m) × Onward m
            go zero z = absurd (more z)
            go (suc m) z = (m, z, inv ∙ rw (z, ← is, e, ← there, ← same) refl)

        pub leads_here : s ≡ true → true ≡ leads_to book table links onward owner first
        leads_here f = let (n, z, g) = one_less in sym (g ∙ ap (λ v. v || if_found (onward_at links onward r) (leads_within book table links onward owner n)) f)

        module _ (f : s ≡ false) (o : Option RecordNo) (next_is : o ≡ onward_at links onward r) where
          onward_from : (n : ℕ) × (left ≡ suc n) × (leads_to book table links onward owner first ≡ if_found o (leads_within book table links onward owner n))
          onward_from =
              let (n, z, g) = one_less in
              let tail = leads_within book table links onward owner n in
              (n, z, g ∙ ap (λ v. v || if_found (onward_at links onward r) tail) f ∙ ap (λ q. if_found q tail) (sym next_is))

          pub leads_nowhere : o ≡ None → false ≡ leads_to book table links onward owner first
          leads_nowhere k = let (n, z, g) = onward_from in sym (g ∙ ap (λ q. if_found q (leads_within book table links onward owner n)) k)

          pub leads_on : (next : RecordNo) → o ≡ Some next → Leading (left - 1) next.0
          leads_on next k =
              let (n, z, g) = onward_from in
              let less : left - 1 ≡ n = omega arith in
              rw less (g ∙ ap (λ q. if_found q (leads_within book table links onward owner n)) k)

-- one name
module _ (book table links heads onward owner x : List ℕ) (s : Bool) (same : s ≡ equal_ignoring_case owner x) where
  pub is_owner : s ≡ true → true ≡ touches_at book table links onward owner heads x
  unfolding touches_at
  is_owner e = rw (← same, e) refl

  module _ (e : s ≡ false) (o : Option RecordNo) (is : o ≡ first_owned CaaOrAlias book table links heads x) where
    pub no_record_lem : o ≡ None → false ≡ touches_at book table links onward owner heads x
    unfolding touches_at
    no_record_lem f = rw (← same, e, ← is, f) refl

    pub from_record : (r : RecordNo) (t : Bool) → o ≡ Some r → t ≡ leads_to book table links onward owner r → t ≡ touches_at book table links onward owner heads x
    unfolding touches_at
    from_record r t f g = rw (← same, e, ← is, f) g

-- a parent begins inside the name
pub parent_inside : (s : List ℕ) (at p : ℕ) → p ≡ parent_place s at → (p ≡ at → ⊥) → p ≤ length s
parent_inside s at p up other = (further s at p up other).1

-- from `at` on, with as many steps as there are octets left
module _ (book table links heads onward owner s : List ℕ) where
  pub record Asking (at : ℕ) : Type 0 where
    pub steps : ℕ
    pub enough : length s ≤ steps + at
    pub left : name_touched book table links onward owner heads s ≡ touched_from book table links onward owner heads steps s at

  pub ask_start : Asking 0
  unfolding name_touched
  ask_start = record { steps = length s; enough = omega arith; left = refl }

  module _ (at p : ℕ) (k : Asking at) (up : p ≡ parent_place s at) where
    pub at_the_root : p ≡ at → false ≡ name_touched book table links onward owner heads s
    at_the_root e = sym (k.left ∙ go k.steps)
      where
        go : (steps : ℕ) → touched_from book table links onward owner heads steps s at ≡ false
        go zero = refl
        go (suc steps) = rw (eq-eqb (parent_place s at) at (sym up ∙ e)) refl

    module _ (other : p ≡ at → ⊥) (t : Bool) (f : t ≡ touches_at book table links onward owner heads (take (length s - at) (drop at s))) where
      abbrev Asked : Type 0
      Asked =
          (steps : ℕ) × (length s ≤ steps + p)
          × (name_touched book table links onward owner heads s ≡ t || touched_from book table links onward owner heads steps s p)

      asked : Asked
      asked = go k.steps k.enough k.left
        where
          go : (n : ℕ) → length s ≤ n + at → name_touched book table links onward owner heads s ≡ touched_from book table links onward owner heads n s at → Asked
          go zero l e = absurd (omega (arith, further s at p up other))
          go (suc steps) l e = (
            steps,
            omega (arith, further s at p up other),
            e ∙ rw (ne_eqb (parent_place s at) at (λ z. other (up ∙ z)), up, f, rest_whole s at),
          )

      pub touched_here : t ≡ true → true ≡ name_touched book table links onward owner heads s
      touched_here g = let (steps, enough, from) = asked in sym (from ∙ ap (λ v. v || touched_from book table links onward owner heads steps s p) g)

      pub not_here : t ≡ false → Asking p
      not_here g =
          let (steps, enough, from) = asked in
          record { steps = steps; enough = enough; left = from ∙ ap (λ v. v || touched_from book table links onward owner heads steps s p) g }
