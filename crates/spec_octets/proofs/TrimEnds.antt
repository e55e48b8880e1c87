-- Trimming removes all white space at an end, and nothing else.
use Prim.Native.Nat.{ℕ}
use mathlib.Core.Path.{◌≡◌, refl, ◌∙◌, ap}
use mathlib.Core.Bool.{Bool, true, false, cond}
use mathlib.Core.List.{List, [], ◌∷◌, ◌++◌}
use Rattle.spec_octets.specs.Lists.{ends, all_nil, all_cons}
use Rattle.spec_octets.specs.Octets.{is_blank, trim_start, unless_last_blank, trim_end}
use Rattle.spec_octets.specs.Theorems.{TrimmedEnd}
use Rattle.spec_octets.proofs.Trims.{trimmed}
use Rattle.spec_octets.proofs.Runs.{Blank, Blankless}

pub trim_start_takes : (s : List ℕ) → (a : List ℕ) × (s ≡ a ++ trim_start s) × Blank a
trim_start_takes s = let (a, e, blank, first) = trimmed s in (a, e, blank)

pub trim_end_takes : (s : List ℕ) → (b : List ℕ) × (s ≡ trim_end s ++ b) × Blank b
trim_end_takes [] = ([], refl, all_nil)
trim_end_takes (x ∷ s) = go (trim_end s) (trim_end_takes s)
  where
    cut : (t : Bool) → is_blank x ≡ t → (b : List ℕ) → s ≡ b → Blank b → (b : List ℕ) × (x ∷ s ≡ cond t [] (x ∷ []) ++ b) × Blank b
    cut true t b e h = (x ∷ b, ap (λ (l : List ℕ). x ∷ l) e, all_cons t h)
    cut false t b e h = (b, ap (λ (l : List ℕ). x ∷ l) e, h)

    go : (r : List ℕ) → (b : List ℕ) × (s ≡ r ++ b) × Blank b → (b : List ℕ) × (x ∷ s ≡ unless_last_blank x r ++ b) × Blank b
    go [] k = cut (is_blank x) refl k.0 k.1 k.2
    go (y ∷ r) k = (k.0, ap (λ (l : List ℕ). x ∷ l) k.1, k.2)

trim_end_blank : {b : List ℕ} → Blank b → trim_end b ≡ []
trim_end_blank all_nil = refl
trim_end_blank (all_cons h hs) = rw (trim_end_blank hs, h)

pub trim_end_back : (s : List ℕ) {b : List ℕ} → Blank b → trim_end (s ++ b) ≡ trim_end s
trim_end_back [] h = trim_end_blank h
trim_end_back (x ∷ s) h = rw (trim_end_back s h)

stays : (x : ℕ) → is_blank x ≡ false → (s : List ℕ) → unless_last_blank x s ≡ x ∷ s
stays x h [] = rw h
stays x h (y ∷ s) = refl

trim_end_blankless : {s : List ℕ} → Blankless s → trim_end s ≡ s
trim_end_blankless all_nil = refl
trim_end_blankless (all_cons {x} {xs} h hs) = rw (trim_end_blankless hs) (stays x h xs)

pub trim_start_blankless : {s : List ℕ} → Blankless s → trim_start s ≡ s
trim_start_blankless all_nil = refl
trim_start_blankless (all_cons h hs) = rw h

pub trim_end_leaves : {s b : List ℕ} → Blankless s → Blank b → trim_end (s ++ b) ≡ s
trim_end_leaves {s} h k = trim_end_back s k ∙ trim_end_blankless h

-- what stands before c, which is not blank, stays
pub trim_end_up_to : (s : List ℕ) (c : ℕ) → is_blank c ≡ false → (r : List ℕ) → trim_end (s ++ (c ∷ r)) ≡ s ++ (c ∷ trim_end r)
trim_end_up_to [] c h r = stays c h (trim_end r)
trim_end_up_to (y ∷ []) c h r = rw (stays c h (trim_end r))
trim_end_up_to (y ∷ z ∷ s) c h r = rw (trim_end_up_to (z ∷ s) c h r)

trim_end_ends : (s : List ℕ) → ends is_blank (trim_end s) ≡ false
trim_end_ends [] = refl
trim_end_ends (x ∷ s) = go (trim_end s) (trim_end_ends s)
  where
    last : (t : Bool) → is_blank x ≡ t → ends is_blank (cond t [] (x ∷ [])) ≡ false
    last true e = refl
    last false e = e

    go : (r : List ℕ) → ends is_blank r ≡ false → ends is_blank (unless_last_blank x r) ≡ false
    go [] h = last (is_blank x) refl
    go (y ∷ r) h = h

pub trimmed_end : TrimmedEnd
trimmed_end s = let (b, e, blank) = trim_end_takes s in (b, e, blank, trim_end_ends s)
