-- The candidates in the next round are those of this round that a tagged set grants.
use Prim.Native.Nat.{ℕ, zero, suc, ◌≤◌, ◌<◌}
use native.Mathlib.Omega.{arith}
use mathlib.Core.Path.{◌≡◌, refl, sym, ◌∙◌}
use mathlib.Core.Bool.{Bool, true, false, cond, ◌&&◌, ◌||◌}
use mathlib.Core.List.{List, [], ◌∷◌, map}
use lib.Dec.{eqb}
use lib.ListN.{take}
use borrow.Author.Tests.{eq-eqb, ne_eqb}
use Rattle.spec_limits.specs.Limits.{max_records}
use Rattle.spec_octets.specs.Lists.{any, cons_if, select, All, all_nil, all_cons}
use Rattle.spec_octets.specs.Octets.{same, lowered}
use Rattle.spec_octets.proofs.ListLaws.{All-imp}
use Rattle.list_places.specs.declared.Grant.{Grant}
use Rattle.list_places.specs.Grants.{grants_by, grant_octets}
use Rattle.list_places.specs.Candidates.{candidate_at}
use Rattle.list_places.specs.Rounds.{kept_from, kept_names, next_round, moved_from, marked, marked_by, narrowed}
use Rattle.list_places.specs.Theorems.{NarrowedByOffset}
use Rattle.list_places.proofs.GrantNames.{grants_by_offset}

All-take : {P : ℕ → Type 0} (k : ℕ) {rounds : List ℕ} → All P rounds → All P (take k rounds)
All-take zero h = all_nil
All-take (suc k) all_nil = all_nil
All-take (suc k) (all_cons h more) = all_cons h (All-take k more)

module _ (book names : List ℕ) (t : ℕ) (small : t < 65535) where
  next_is : next_round t ≡ suc t
  next_is = omega arith

  -- one candidate, in round r, moved on by a test or two
  abbrev moved : Bool → ℕ → ℕ
  moved b r = cond (eqb r t && b) (next_round t) r

  -- moved on by one test and then by another is moved on by either
  moved_twice : (a b : Bool) (r : ℕ) → moved b (moved a r) ≡ moved (a || b) r
  moved_twice a b r = go (eqb r t) refl a
    where
      past : eqb (next_round t) t ≡ false
      past = ne_eqb (next_round t) t (λ e. omega (arith, next_is))

      go :
          (s : Bool) → eqb r t ≡ s → (a : Bool) →
          moved b (cond (s && a) (next_round t) r) ≡ cond (s && (a || b)) (next_round t) r
      go true e true = rw past
      go true e false = rw e
      go false e a = rw e

  moved_either :
      (p q : List ℕ → Bool) (n i : ℕ) (rounds : List ℕ) →
      moved_from book names q t n i (moved_from book names p t n i rounds) ≡ moved_from book names (λ m. p m || q m) t n i rounds
  moved_either p q zero i rounds = refl
  moved_either p q (suc n) i [] = refl
  moved_either p q (suc n) i (r ∷ rounds) =
      rw (moved_either p q n (suc i) rounds, moved_twice (p (lowered (candidate_at book names i))) (q (lowered (candidate_at book names i))) r)

  moved_never : (n i : ℕ) (rounds : List ℕ) → moved_from book names (λ m. false) t n i rounds ≡ rounds
  moved_never zero i rounds = refl
  moved_never (suc n) i [] = refl
  moved_never (suc n) i (r ∷ rounds) = rw (moved_never n (suc i) rounds) (go (eqb r t))
    where
      go : (s : Bool) → cond (s && false) (next_round t) r ∷ rounds ≡ r ∷ rounds
      go true = refl
      go false = refl

  -- by some grants: those that one of them names
  abbrev named_by : List Grant → List ℕ → Bool
  named_by gs m = any (same m) (map (λ g. lowered (grant_octets book g)) gs)

  marked_by_lem : (count : ℕ) (gs : List Grant) (rounds : List ℕ) → marked_by book names count t gs rounds ≡ moved_from book names (named_by gs) t count 0 rounds
  unfolding marked
  marked_by_lem count [] rounds = sym (moved_never count 0 rounds)
  marked_by_lem count (g ∷ gs) rounds =
      marked_by_lem count gs (marked book names count (grant_octets book g) t rounds)
      ∙ moved_either (λ m. same m (lowered (grant_octets book g))) (named_by gs) count 0 rounds

  -- the candidates in the next round, and none further
  moved_kept :
      (p : List ℕ → Bool) (n i : ℕ) (rounds : List ℕ) → All (λ r. r ≤ t) rounds →
      kept_from book names (suc t) n i (moved_from book names p t n i rounds) ≡ select p (kept_from book names t n i rounds)
  moved_kept p zero i rounds h = refl
  moved_kept p (suc n) i [] h = refl
  moved_kept p (suc n) i (r ∷ rounds) (all_cons h more) = rw (moved_kept p n (suc i) rounds more) (go (eqb r t) refl (p m) refl)
    where
      m : List ℕ
      m = lowered (candidate_at book names i)

      left : List (List ℕ)
      left = kept_from book names t n (suc i) rounds

      below : eqb r (suc t) ≡ false
      below = ne_eqb r (suc t) (λ e. omega arith)

      here : eqb (next_round t) (suc t) ≡ true
      here = eq-eqb (next_round t) (suc t) next_is

      go :
          (s : Bool) → eqb r t ≡ s → (b : Bool) → p m ≡ b →
          cons_if (eqb (cond (s && b) (next_round t) r) (suc t)) m (select p left) ≡ select p (cons_if s m left)
      go true e true k = rw (here, k)
      go true e false k = rw (below, k)
      go false e b k = rw below

  -- the front of the rounds is moved on by itself
  moved_front :
      (p : List ℕ → Bool) (k n i : ℕ) (rounds : List ℕ) → take k (moved_from book names p t n i rounds) ≡ moved_from book names p t n i (take k rounds)
  moved_front p k zero i rounds = refl
  moved_front p zero (suc n) i rounds = refl
  moved_front p (suc k) (suc n) i [] = refl
  moved_front p (suc k) (suc n) i (r ∷ rounds) = rw (moved_front p k n (suc i) rounds)

  moved_within : (p : List ℕ → Bool) (n i : ℕ) (rounds : List ℕ) → All (λ r. r ≤ t) rounds → All (λ r. r ≤ suc t) (moved_from book names p t n i rounds)
  moved_within p zero i rounds h = All-imp (λ r k. omega arith) h
  moved_within p (suc n) i [] all_nil = all_nil
  moved_within p (suc n) i (r ∷ rounds) (all_cons h more) =
      all_cons (go (eqb r t && p (lowered (candidate_at book names i)))) (moved_within p n (suc i) rounds more)
    where
      go : (s : Bool) → cond s (next_round t) r ≤ suc t
      go true = omega (arith, next_is)
      go false = omega arith

pub narrowed_by_offset : NarrowedByOffset
unfolding kept_names narrowed
narrowed_by_offset who book table links names rounds fits count t small h s =
    rw (marked_by_lem book names t small count (grants_by who book table links s) rounds, ← grants_by_offset who book table links fits s) (
      rw (moved_front book names t small _ max_records count 0 rounds)
          (moved_kept book names t small _ count 0 (take max_records rounds) (All-take max_records h)),
      moved_within book names t small (λ m. any (same m) (map (λ g. lowered (grant_octets book g)) (grants_by who book table links s))) count 0 rounds h,
    )
