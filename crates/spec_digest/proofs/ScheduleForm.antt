-- The message schedule: the words of the block, then the words of the recurrence.
use Prim.Native.Nat.{ℕ, zero, suc, ◌+◌, ◌-◌, ◌≤◌, ◌<◌}
use native.Mathlib.Nat.{add-zero, eq-or-lt_of_le}
use native.Mathlib.Omega.{arith}
use mathlib.Core.Path.{◌≡◌, sym, ap, ◌∙◌}
use mathlib.Core.Logic.{◌⊎◌, inl, inr}
use mathlib.Core.List.{List, [], ◌∷◌, ◌++◌}
use lib.ListN.{length, take, get_or, length-append, get_or-append}
use lib.Seq.{take-length, take-take, take-append-le, get_or-take, get_or-append_seam}
use Rattle.spec_digest.specs.Family.{Member, next_word, word_after, scheduled, schedule}
use Rattle.spec_digest.specs.Theorems.{ScheduleForm}

module _ (m : Member) where
  -- more words leave those that are there
  length_scheduled : (count : ℕ) (ws : List ℕ) → length (scheduled m count ws) ≡ length ws + count
  length_scheduled zero ws = sym (add-zero (length ws))
  length_scheduled (suc count) ws =
      length_scheduled count (ws ++ (word_after m ws (length ws) ∷ [])) ∙ rw length-append (omega arith)

  shorter : (ws : List ℕ) (x : ℕ) (f : List ℕ) → take (length (ws ++ (x ∷ []))) f ≡ ws ++ (x ∷ []) → take (length ws) f ≡ ws
  shorter ws x f e =
      sym (take-take (length ws) (length (ws ++ (x ∷ []))) f (omega (arith, length-append ws (x ∷ []))))
      ∙ rw (e, take-append-le (length ws) ws (x ∷ []) (omega arith)) (take-length ws)

  front_scheduled : (count : ℕ) (ws : List ℕ) → take (length ws) (scheduled m count ws) ≡ ws
  front_scheduled zero ws = take-length ws
  front_scheduled (suc count) ws =
      let x = word_after m ws (length ws) in
      shorter ws x (scheduled m count (ws ++ (x ∷ []))) (front_scheduled count (ws ++ (x ∷ [])))

  -- a word that is there
  kept : (count : ℕ) (ws : List ℕ) (i : ℕ) → i < length ws → get_or (scheduled m count ws) i 0 ≡ get_or ws i 0
  kept count ws i h =
      sym (get_or-take (length ws) (scheduled m count ws) i 0 h) ∙ ap (λ (l : List ℕ). get_or l i 0) (front_scheduled count ws)

  abbrev Recurs : List ℕ → ℕ → Type 0
  Recurs f t = get_or f t 0 ≡ next_word m (get_or f (t - 16) 0) (get_or f (t - 15) 0) (get_or f (t - 7) 0) (get_or f (t - 2) 0)

  recurs : (count : ℕ) (ws : List ℕ) (t : ℕ) → 16 ≤ length ws → length ws ≤ t → t < length ws + count → Recurs (scheduled m count ws) t
  recurs zero ws t from there below = absurd (omega arith)
  recurs (suc count) ws t from there below =
      by (eq-or-lt_of_le there)
      (λ later. recurs count (ws ++ (x ∷ [])) t (rw length-append (omega arith)) (rw length-append (omega arith)) (rw length-append (omega arith)))
    where
      x : ℕ
      x = word_after m ws (length ws)

      f : List ℕ
      f = scheduled m count (ws ++ (x ∷ []))

      there_still : (i : ℕ) → i < length ws → get_or f i 0 ≡ get_or ws i 0
      there_still i h = kept count (ws ++ (x ∷ [])) i (rw length-append (omega arith)) ∙ get_or-append ws (x ∷ []) 0 i h

      new : get_or f (length ws) 0 ≡ x
      new = kept count (ws ++ (x ∷ [])) (length ws) (rw length-append (omega arith)) ∙ get_or-append_seam ws x [] 0

      by : (length ws ≡ t) ⊎ (length ws < t) → (length ws < t → Recurs f t) → Recurs f t
      by (inl e) later =
          rw (
            ← e,
            new,
            there_still (length ws - 16) (omega arith),
            there_still (length ws - 15) (omega arith),
            there_still (length ws - 7) (omega arith),
            there_still (length ws - 2) (omega arith),
          )
      by (inr less) later = later less

pub schedule_form : ScheduleForm
unfolding schedule
schedule_form m block l many = (
  length_scheduled m (length m.constants - 16) block ∙ omega arith,
  ap (λ (k : ℕ). take k (scheduled m (length m.constants - 16) block)) (sym l) ∙ front_scheduled m (length m.constants - 16) block,
  λ t from below. recurs m (length m.constants - 16) block t (omega arith) (omega arith) (omega arith),
)
