-- Candidates: a law for each way out of the code.
use Prim.Native.Nat.{ℕ, suc, ◌+◌, ◌-◌, ◌*◌, ◌/◌, ◌≤◌, ◌<◌}
use native.Mathlib.Omega.{arith}
use native.Mathlib.Nat.{sub-zero}
use native.Mathlib.Numerals.{add-one}
use mathlib.Core.Path.{◌≡◌, sym, ap, ◌∙◌}
use mathlib.Core.Bool.{Bool, true, false}
use mathlib.Core.List.{List, [], ◌∷◌}
use lib.ListN.{length, get_or, set, get_or-eq_default}
use Rattle.spec_octets.specs.Lists.{any}
use Rattle.spec_octets.specs.Octets.{same, lowered, equal_ignoring_case}
use Rattle.book_places.specs.Table.{octets_at}
use Rattle.list_places.specs.declared.Grant.{Grant}
use Rattle.list_places.specs.Candidates.{candidate_at, candidates_from, candidates, is_candidate, Candidates, pushed}
use Rattle.list_places.proofs.CandidateLaws.{push_room, push_full}

module _ (book names : List ℕ) (i : ℕ) where
  pub no_candidate : length names / 2 ≤ i → [] ≡ candidate_at book names i
  unfolding candidate_at
  no_candidate h = rw (get_or-eq_default names 0 {n = 2 * i + 1} (omega arith))

  pub candidate_there : (x : List ℕ) → x ≡ octets_at book (get_or names (2 * i) 0) (get_or names (2 * i + 1) 0) → x ≡ candidate_at book names i
  unfolding candidate_at
  candidate_there x e = e

-- a text is a candidate where it is one from the i-th on
abbrev pub Held : List ℕ → List ℕ → ℕ → List ℕ → ℕ → Type 0
Held book names count x i = is_candidate book names count x ≡ any (same (lowered x)) (candidates_from book names (count - i) i)

pub held_start : (book names : List ℕ) (count : ℕ) (x : List ℕ) → Held book names count x 0
unfolding is_candidate candidates
held_start book names count x = rw sub-zero

module _ (book names : List ℕ) (count : ℕ) (x : List ℕ) (i : ℕ) (held : Held book names count x i) where
  pub held_done : count ≤ i → false ≡ is_candidate book names count x
  held_done h = let none_left : count - i ≡ 0 = omega arith in sym (held ∙ rw none_left)

  module _ (h : i < count) (p : List ℕ) (b : Bool) (e : p ≡ candidate_at book names i) (f : b ≡ equal_ignoring_case x p) where
    next : candidates_from book names (count - i) i ≡ lowered p ∷ candidates_from book names (count - (i + 1)) (i + 1)
    next =
        let more : count - i ≡ suc (count - (i + 1)) = omega arith in
        rw (more, e, add-one i)

    pub held_here : b ≡ true → true ≡ is_candidate book names count x
    unfolding equal_ignoring_case
    held_here g = sym (held ∙ rw (next, ← f, g))

    pub held_next : b ≡ false → Held book names count x (i + 1)
    unfolding equal_ignoring_case
    held_next g = held ∙ rw (next, ← f, g)

module _ (names : List ℕ) (count : ℕ) (g : Grant) where
  abbrev so_far : Candidates
  so_far = record { count = count; names = names }

  module _ (h : length names / 2 ≤ count) where
    full : pushed so_far g ≡ so_far
    full = push_full so_far g (omega arith)

    pub no_more : count ≡ (pushed (record { count = count; names = names }) g).count
    no_more = sym (ap (λ (c : Candidates). c.count) full)

    pub no_change : names ≡ (pushed (record { count = count; names = names }) g).names
    no_change = sym (ap (λ (c : Candidates). c.names) full)

  module _ (h : count < length names / 2) where
    room : pushed so_far g ≡ record { count = suc count; names = set (set names (2 * count) g.at) (2 * count + 1) g.octets }
    room = push_room so_far g (omega arith)

    pub one_more_lem : count + 1 ≡ (pushed (record { count = count; names = names }) g).count
    one_more_lem = rw (add-one count) (sym (ap (λ (c : Candidates). c.count) room))

    pub one_written : set (set names (2 * count) g.at) (2 * count + 1) g.octets ≡ (pushed (record { count = count; names = names }) g).names
    one_written = sym (ap (λ (c : Candidates). c.names) room)
