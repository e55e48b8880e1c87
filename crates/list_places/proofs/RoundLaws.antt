-- The candidates of one round, from one candidate on: for code that walks them.
use Prim.Native.Nat.{ℕ, zero, suc, ◌+◌, ◌-◌, ◌≤◌, ◌<◌, min}
use native.Mathlib.Omega.{arith}
use native.Mathlib.Nat.{sub-zero}
use native.Mathlib.Numerals.{add-one}
use mathlib.Core.Path.{◌≡◌, refl}
use mathlib.Core.Bool.{Bool, true, false}
use mathlib.Core.List.{List, []}
use lib.Dec.{eqb, leb}
use lib.ListN.{length, take, drop, get_or, length-take, drop_of_length-le}
use lib.Seq.{drop-cons, get_or-take}
use borrow.Author.Tests.{leb-true, leb-false}
use Rattle.spec_limits.specs.Limits.{max_records}
use Rattle.spec_octets.specs.Lists.{cons_if}
use Rattle.spec_octets.specs.Octets.{lowered}
use Rattle.list_places.specs.Candidates.{candidate_at}
use Rattle.list_places.specs.Rounds.{kept_from, kept_names}

module _ (book names : List ℕ) (count : ℕ) (rounds : List ℕ) (t : ℕ) where
  abbrev front : List ℕ
  front = take max_records rounds

  -- those from candidate i on
  abbrev pub kept_behind : ℕ → List (List ℕ)
  kept_behind i = kept_from book names t (count - i) i (drop i front)

  pub kept_all : kept_names book names count rounds t ≡ kept_behind 0
  unfolding kept_names
  kept_all = rw sub-zero

  module _ (i : ℕ) where
    over : count ≤ i → kept_behind i ≡ []
    over h = let none_left : count - i ≡ 0 = omega arith in rw none_left

    past : length front ≤ i → kept_behind i ≡ []
    past h = rw (drop_of_length-le front {i = i} h) (go (count - i))
      where
        go : (n : ℕ) → kept_from book names t n i [] ≡ []
        go zero = refl
        go (suc n) = refl

    -- m is how many candidates count: those that have a round, and at most `max_records`
    pub kept_done : (r m : ℕ) → r ≡ min count (length rounds) → m ≡ min r max_records → m ≤ i → kept_behind i ≡ []
    kept_done r m e f h = go (leb count i) refl
      where
        go : (b : Bool) → leb count i ≡ b → kept_behind i ≡ []
        go true g = over (leb-true count i g)
        go false g = let far : i < count = leb-false count i g in past (omega (arith, e, f, far, length-take max_records rounds))

    pub kept_next :
        i < count → i < max_records → i < length rounds →
        kept_behind i ≡ cons_if (eqb (get_or rounds i 0) t) (lowered (candidate_at book names i)) (kept_behind (i + 1))
    kept_next h k l =
        let more : count - i ≡ suc (count - (i + 1)) = omega arith in
        rw (more, add-one i, drop-cons front i 0 (omega (arith, length-take max_records rounds)), get_or-take max_records rounds i 0 k)
