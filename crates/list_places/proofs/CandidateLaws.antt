-- Candidates one by one, and one more behind them.
use Prim.Native.Nat.{ℕ, zero, suc, ◌+◌, ◌*◌, ◌≤◌, ◌<◌}
use native.Mathlib.Omega.{arith}
use native.Mathlib.Nat.{add-zero}
use mathlib.Core.Path.{◌≡◌, refl, ap, ◌∙◌}
use mathlib.Core.Bool.{Bool, true, false, cond}
use mathlib.Core.List.{List, [], ◌∷◌, ◌++◌}
use lib.Dec.{ltb}
use lib.ListN.{length, set, length-set}
use lib.Seq.{get_or-set_same, get_or-set_other}
use borrow.Author.Tests.{lt-ltb, le-ltb}
use Rattle.spec_octets.specs.Octets.{lowered}
use Rattle.book_places.specs.Table.{octets_at}
use Rattle.list_places.specs.declared.Grant.{Grant}
use Rattle.list_places.specs.Grants.{grant_octets}
use Rattle.list_places.specs.Candidates.{candidate_at, candidates_from, candidates, Candidates, pushed}

module _ (book names : List ℕ) where
  candidates_behind :
      (n i : ℕ) → candidates_from book names (suc n) i ≡ candidates_from book names n i ++ (lowered (candidate_at book names (i + n)) ∷ [])
  candidates_behind zero i = rw add-zero
  candidates_behind (suc n) i =
      ap (◌∷◌ (lowered (candidate_at book names i)))
      (candidates_behind n (suc i) ∙ ap (λ k. candidates_from book names n (suc i) ++ (lowered (candidate_at book names k) ∷ [])) (omega arith))

-- the two numbers of candidate n are set
module _ (book names : List ℕ) (n a b : ℕ) where
  abbrev pub with_one : List ℕ
  with_one = set (set names (2 * n) a) (2 * n + 1) b

  -- those before it stay
  others_stay : (i : ℕ) → i < n → candidate_at book with_one i ≡ candidate_at book names i
  unfolding candidate_at
  others_stay i h =
      rw (
        get_or-set_other (set names (2 * n) a) (2 * n + 1) (2 * i) b 0 (λ e. omega arith),
        get_or-set_other names (2 * n) (2 * i) a 0 (λ e. omega arith),
        get_or-set_other (set names (2 * n) a) (2 * n + 1) (2 * i + 1) b 0 (λ e. omega arith),
        get_or-set_other names (2 * n) (2 * i + 1) a 0 (λ e. omega arith),
      )

  earlier_stay : (k i : ℕ) → i + k ≤ n → candidates_from book with_one k i ≡ candidates_from book names k i
  earlier_stay zero i h = refl
  earlier_stay (suc k) i h = rw (others_stay i (omega arith), earlier_stay k (suc i) (omega arith))

  one_there : 2 * n + 1 < length names → candidate_at book with_one n ≡ octets_at book a b
  unfolding candidate_at
  one_there h =
      rw (
        get_or-set_other (set names (2 * n) a) (2 * n + 1) (2 * n) b 0 (λ e. omega arith),
        get_or-set_same names (2 * n) a 0 (omega arith),
        get_or-set_same (set names (2 * n) a) (2 * n + 1) b 0 (rw length-set h),
      )

  one_more_lem : 2 * n + 1 < length names → candidates book with_one (suc n) ≡ candidates book names n ++ (lowered (octets_at book a b) ∷ [])
  unfolding candidates
  one_more_lem h = candidates_behind book with_one n 0 ∙ rw (earlier_stay n 0 (omega arith), ← one_there h) (ap (λ k. candidates_from book names n 0 ++ (lowered (candidate_at book with_one k) ∷ [])) (omega arith))

module _ (c : Candidates) (g : Grant) where
  pub push_room :
      2 * c.count + 1 < length c.names →
      pushed c g ≡ record { count = suc c.count; names = with_one [] c.names c.count g.at g.octets }
  unfolding pushed
  push_room h = rw (lt-ltb (2 * c.count + 1) (length c.names) h)

  pub push_full : length c.names ≤ 2 * c.count + 1 → pushed c g ≡ c
  unfolding pushed
  push_full h = rw (le-ltb (2 * c.count + 1) (length c.names) h)

  pub pushed_most : (pushed c g).count ≤ suc c.count
  unfolding pushed
  pushed_most = go (ltb (2 * c.count + 1) (length c.names))
    where
      go : (t : Bool) → (cond t (record { count = suc c.count; names = with_one [] c.names c.count g.at g.octets }) c).count ≤ suc c.count
      go true = omega arith
      go false = omega arith

  module _ (h : 2 * c.count + 1 < length c.names) where
    pub pushed_count : (pushed c g).count ≡ suc c.count
    pushed_count = rw (push_room h)

    pub pushed_length : length (pushed c g).names ≡ length c.names
    pushed_length = rw (push_room h, length-set, length-set)

    pub pushed_names :
        (book : List ℕ) → candidates book (pushed c g).names (pushed c g).count ≡ candidates book c.names c.count ++ (lowered (grant_octets book g) ∷ [])
    pushed_names book = rw (push_room h) (one_more_lem book c.names c.count g.at g.octets h)
