-- Trimming removes white space at both ends, and nothing else.
use Prim.Native.Nat.{ℕ}
use mathlib.Core.Path.{◌≡◌, refl, ◌∙◌, ap}
use mathlib.Core.Bool.{false}
use mathlib.Core.List.{List, [], ◌∷◌, ◌++◌, append_assoc}
use Rattle.spec_octets.specs.Lists.{all_nil, all_cons}
use Rattle.spec_octets.specs.Octets.{is_blank, trim_start, unless_last_blank, trim_end}
use Rattle.spec_octets.proofs.Runs.{Blank, Blankless}
use Rattle.spec_octets.proofs.TrimEnds.{trim_start_takes, trim_end_takes, trim_start_blankless, trim_end_leaves, trim_end_up_to}
use Rattle.spec_value.specs.IssueValues.{trim}

-- What is taken off is blank.

pub trim_takes : (s : List ℕ) → (a b : List ℕ) × (s ≡ a ++ (trim s ++ b)) × Blank a × Blank b
trim_takes s =
    let front = trim_start_takes (trim_end s) in
    let back = trim_end_takes s in
    (front.0, back.0, back.1 ∙ ap (λ (l : List ℕ). l ++ back.0) front.1 ∙ append_assoc front.0 (trim s) back.0, front.2, back.2)

-- Blanks are taken off.

trim_front : {a : List ℕ} → Blank a → (s : List ℕ) → trim (a ++ s) ≡ trim s
trim_front all_nil s = refl
trim_front (all_cons {x} {xs = a} h hs) s = go (trim_end (a ++ s)) ∙ trim_front hs s
  where
    go : (r : List ℕ) → trim_start (unless_last_blank x r) ≡ trim_start r
    go [] = rw h
    go (y ∷ r) = rw h

-- What is not blank stays.

pub trim_leaves : {a s b : List ℕ} → Blank a → Blankless s → Blank b → trim (a ++ (s ++ b)) ≡ s
trim_leaves {s} {b} h k l = trim_front h (s ++ b) ∙ ap trim_start (trim_end_leaves k l) ∙ trim_start_blankless k

-- from x up to c, neither blank, nothing is taken off
pub trim_within : {a : List ℕ} → Blank a → (x : ℕ) → is_blank x ≡ false → (s : List ℕ) (c : ℕ) → is_blank c ≡ false → (r : List ℕ) →
    trim (a ++ (x ∷ s ++ (c ∷ r))) ≡ x ∷ s ++ (c ∷ trim_end r)
trim_within h x first s c last r = trim_front h (x ∷ s ++ (c ∷ r)) ∙ rw (trim_end_up_to (x ∷ s) c last r, first)
