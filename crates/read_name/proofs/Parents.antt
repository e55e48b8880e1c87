-- parent_place in each case, and that it removes the first label.
use Prim.Native.Nat.{ℕ, ◌≤◌, ◌<◌, ◌+◌, ◌-◌}
use native.Mathlib.Omega.{arith}
use mathlib.Core.Path.{◌≡◌, refl, ap}
use mathlib.Core.Bool.{Bool, true, false, cond, ◌||◌}
use mathlib.Core.List.{List, [], ◌∷◌, ◌++◌, append_assoc}
use lib.Dec.{eqb, ltb}
use lib.ListN.{length, take, drop, get_or, length-append, length-drop, drop_of_length-le}
use lib.Seq.{drop-drop, drop-append_seam, take_at}
use borrow.Author.Tests.{ltb-false, le-ltb, lt-ltb, eq-eqb, ne_eqb}
use Rattle.spec_octets.proofs.Walks.{drop_step}
use Rattle.spec_name.specs.Names.{Name, wire}
use Rattle.read_name.specs.Places.{parent_from, parent_place}
use Rattle.read_name.specs.Theorems.{ParentByPlace}

module _ (s : List ℕ) (at : ℕ) where
  pub past_end : length s ≤ at → at ≡ parent_place s at
  unfolding parent_place
  past_end h = rw (drop_of_length-le s h)

  module _ (x : ℕ) (h : at < length s) (e : x ≡ get_or s at 0) where
    here : parent_place s at ≡ parent_from at (x ∷ drop (at + 1) s)
    unfolding parent_place
    here = rw (drop_step 0 s at (at + 1) h refl, ← e)

    pub at_root : x ≡ 0 → at ≡ parent_place s at
    at_root z = rw (here, eq-eqb x 0 z)

    module _ (q : ℕ) (f : q ≡ at + 1) where
      pub cut_off : length s - q < x → at ≡ parent_place s at
      cut_off g = rw (here, ne_eqb x 0 (λ z. omega arith), length-drop, ← f, lt-ltb (length s - q) x g)

      pub one_off : (r : ℕ) → (x ≡ 0 → ⊥) → x ≤ length s - q → r ≡ q + x → r ≡ parent_place s at
      one_off r n g k = rw (here, ne_eqb x 0 n, length-drop, ← f, le-ltb (length s - q) x g, k)

-- for whoever climbs: where a name closes there is no place further on
pub root_stays : (s : List ℕ) (at : ℕ) (rest : List ℕ) → drop at s ≡ wire [] ++ rest → parent_place s at ≡ at
unfolding parent_place
root_stays s at rest h = rw h

-- where a label stands, the next place is behind it
module _ (s : List ℕ) (at : ℕ) (l : List ℕ) (ls : Name) (rest : List ℕ) (h : drop at s ≡ wire (l ∷ ls) ++ rest) where
  behind_length : drop (at + 1) s ≡ l ++ (wire ls ++ rest)
  behind_length = rw (← drop-drop 1 at s, h) (append_assoc l (wire ls) rest)

  pub behind_label : drop (at + 1 + length l) s ≡ wire ls ++ rest
  behind_label = rw (← drop-drop (length l) (at + 1) s, behind_length) (drop-append_seam l (wire ls ++ rest))

  pub label_octets_lem : take (length l) (drop (at + 1) s) ≡ l
  label_octets_lem = rw behind_length (take_at l (wire ls ++ rest) (length l) refl)

  pub label_passed : 1 ≤ length l → parent_place s at ≡ at + 1 + length l
  unfolding parent_place
  label_passed g =
      let fits : length l ≤ length (l ++ wire ls ++ rest) = simp length-append (omega arith) in
      rw (h, ne_eqb (length l) 0 (λ z. omega arith), le-ltb (length (l ++ wire ls ++ rest)) (length l) fits)

-- another place is further on, and inside the name
module _ (s : List ℕ) (at u : ℕ) (up : u ≡ parent_place s at) (other : u ≡ at → ⊥) where
  pub further : (at < u) × (u ≤ length s)
  unfolding parent_place
  further = go (drop at s) refl up
    where
      go : (t : List ℕ) → drop at s ≡ t → u ≡ parent_from at t → (at < u) × (u ≤ length s)
      go [] e h = absurd (other h)
      go (n ∷ t) e h = label (eqb n 0) (ltb (length t) n) refl h
        where
          label : (a b : Bool) → ltb (length t) n ≡ b → u ≡ cond (a || b) at (at + 1 + n) → (at < u) × (u ≤ length s)
          label true b f h = absurd (other h)
          label false true f h = absurd (other h)
          label false false f h = (omega arith, omega (arith, ltb-false (length t) n f, length-drop at s, ap length e))

  pub at_before : at ≤ length s
  at_before = omega (arith, further)

  pub closer : length s - u < length s - at
  closer = omega (arith, further)

-- the same of a place that is known to be further on
module _ (s : List ℕ) (at p : ℕ) (up : p ≡ parent_place s at) (h : at < p) where
  pub up_inside : p ≤ length s
  up_inside = (further s at p up (λ e. omega arith)).1

  pub up_less : length s - p < length s - at
  up_less = closer s at p up (λ e. omega arith)

pub parent_by_place : ParentByPlace
parent_by_place = (
  λ p l ls rest g.
      let s = p ++ (wire (l ∷ ls) ++ rest) in
      let h = drop-append_seam p (wire (l ∷ ls) ++ rest) in
      rw (label_passed s (length p) l ls rest h g) (behind_label s (length p) l ls rest h),
  λ p rest. root_stays (p ++ (wire [] ++ rest)) (length p) rest (drop-append_seam p (wire [] ++ rest)),
)
