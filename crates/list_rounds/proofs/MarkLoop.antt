-- The loop of mark: the rounds before candidate i stay, and those from there on are still to be moved.
use Prim.Native.Nat.{ℕ, zero, suc, ◌+◌, ◌-◌, ◌%◌, ◌≤◌, ◌<◌, min}
use native.Mathlib.Omega.{arith}
use native.Mathlib.Nat.{sub-zero}
use native.Mathlib.Numerals.{add-one}
use mathlib.Core.Path.{◌≡◌, refl, sym, ap, ◌∙◌}
use mathlib.Core.Logic.{◌⊎◌, inl, inr, ⊎_elim}
use mathlib.Core.Bool.{Bool, true, false, cond, ◌&&◌}
use mathlib.Core.List.{List, [], ◌∷◌, ◌++◌, append-nil, append_assoc}
use lib.Dec.{eqb, leb}
use lib.ListN.{length, take, drop, set, get_or, length-set, drop_of_length-le, take-append-drop}
use lib.Seq.{take_all, take-suc, drop-cons, take-suc-set, drop-set-lt}
use borrow.Author.Tests.{eq-eqb, ne_eqb, leb-true, leb-false}
use Rattle.spec_octets.specs.Octets.{same, lowered, equal_ignoring_case}
use Rattle.list_places.specs.Candidates.{candidate_at}
use Rattle.list_places.specs.Rounds.{next_round, moved_from, marked}

module _ (book names : List ℕ) (count : ℕ) (x : List ℕ) (t : ℕ) where
  -- those from candidate i on
  abbrev moved : ℕ → List ℕ → List ℕ
  moved i rounds = moved_from book names (λ m. same m (lowered x)) t (count - i) i rounds

  -- the rounds were d
  pub record Moved (d rounds : List ℕ) (i : ℕ) : Type 0 where
    pub left : marked book names count x t d ≡ take i rounds ++ moved i (drop i rounds)
    pub same_length : length rounds ≡ length d

  pub move_start : (d : List ℕ) → Moved d d 0
  unfolding marked
  move_start d = record { left = rw sub-zero; same_length = refl }

  module _ (d rounds : List ℕ) (i : ℕ) (m : Moved d rounds i) where
    pub moved_length : length rounds ≡ length d
    moved_length = m.same_length

    move_over : count ≤ i → rounds ≡ marked book names count x t d
    move_over h =
        let none_left : count - i ≡ 0 = omega arith in
        sym (m.left ∙ rw none_left (take-append-drop i rounds))

    move_past : length rounds ≤ i → rounds ≡ marked book names count x t d
    move_past h = sym (m.left ∙ rw (drop_of_length-le rounds {i = i} h, take_all i rounds h) (ap (◌++◌ rounds) (nothing (count - i)) ∙ append-nil rounds))
      where
        nothing : (n : ℕ) → moved_from book names (λ m. same m (lowered x)) t n i [] ≡ []
        nothing zero = refl
        nothing (suc n) = refl

    -- n is how many candidates have a round
    pub move_done : (n : ℕ) → n ≡ min count (length d) → n ≤ i → rounds ≡ marked book names count x t d
    move_done n e h = ⊎_elim move_over move_past over
      where
        over : (count ≤ i) ⊎ (length rounds ≤ i)
        over = go (leb count i) refl
          where
            go : (b : Bool) → leb count i ≡ b → (count ≤ i) ⊎ (length rounds ≤ i)
            go true f = inl (leb-true count i f)
            go false f = let far : i < count = leb-false count i f in inr (omega (arith, e, far, m.same_length))

    module _ (h : i < count) (l : i < length rounds) where
      -- v is the round of candidate i afterwards
      next :
          (v : ℕ) → cond (eqb (get_or rounds i 0) t && same (lowered (candidate_at book names i)) (lowered x)) (next_round t) (get_or rounds i 0) ≡ v →
          marked book names count x t d ≡ (take i rounds ++ (v ∷ [])) ++ moved (i + 1) (drop (i + 1) rounds)
      next v e =
          let more : count - i ≡ suc (count - (i + 1)) = omega arith in
          m.left
          ∙ rw (more, drop-cons rounds i 0 l, e, add-one i)
          (sym (append_assoc (take i rounds) (v ∷ []) (moved_from book names (λ m. same m (lowered x)) t (count - suc i) (suc i) (drop (suc i) rounds))))

      stays :
          cond (eqb (get_or rounds i 0) t && same (lowered (candidate_at book names i)) (lowered x)) (next_round t) (get_or rounds i 0) ≡ get_or rounds i 0 →
          Moved d rounds (i + 1)
      stays e = record {
        left = next (get_or rounds i 0) e ∙ rw (← take-suc rounds i 0 l, ← add-one i);
        same_length = m.same_length;
      }

      pub other_round : (get_or rounds i 0 ≡ t → ⊥) → Moved d rounds (i + 1)
      other_round e = stays (rw (ne_eqb (get_or rounds i 0) t e))

      module _ (e : get_or rounds i 0 ≡ t) (p : List ℕ) (f : p ≡ candidate_at book names i) (b : Bool) (g : b ≡ equal_ignoring_case p x) where
        tells : same (lowered (candidate_at book names i)) (lowered x) ≡ b
        unfolding equal_ignoring_case
        tells = rw (← f) (sym g)

        pub other_name : b ≡ false → Moved d rounds (i + 1)
        other_name k = stays (rw (eq-eqb (get_or rounds i 0) t e, tells, k))

        pub moved_on : b ≡ true → Moved d (set rounds i ((t % 65536 + 1) % 65536)) (i + 1)
        moved_on k = record {
          left =
              next (next_round t) (rw (eq-eqb (get_or rounds i 0) t e, tells, k))
              ∙ rw (← take-suc-set rounds i (next_round t) l, ← drop-set-lt (i + 1) rounds i (next_round t) (omega arith), ← add-one i);
          same_length = length-set rounds i (next_round t) ∙ m.same_length;
        }
