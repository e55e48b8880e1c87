-- The loop that removes white space from the end: trimming what is left gives the same as trimming the whole.
use Prim.Native.Nat.{ℕ, suc, ◌-◌, ◌<◌}
use native.Mathlib.Omega.{arith}
use mathlib.Core.Path.{◌≡◌, sym, ap, ◌∙◌}
use mathlib.Core.Bool.{Bool, true, false}
use mathlib.Core.List.{List, [], ◌∷◌, ◌++◌}
use lib.ListN.{length, get_or, take}
use lib.Seq.{take-suc, take-length}
use Rattle.spec_octets.specs.Lists.{all_nil, all_cons}
use Rattle.spec_octets.specs.Octets.{is_blank, trim_end}
use Rattle.spec_octets.proofs.TrimEnds.{trim_end_back, trim_end_up_to}

-- up to the last octet, and that
last_apart : (t : List ℕ) (n : ℕ) → 0 < length t → n ≡ length t - 1 → t ≡ take n t ++ (get_or t n 0 ∷ [])
last_apart t n h e = let whole : suc n ≡ length t = omega arith in sym (take-length t) ∙ rw whole at (take-suc t n 0 (omega arith))

module _ (s t : List ℕ) (left : trim_end s ≡ trim_end t) where
  pub end_turn : (n : ℕ) (r : Bool) → 0 < length t → n ≡ length t - 1 → r ≡ is_blank (get_or t n 0) → r ≡ true → trim_end s ≡ trim_end (take n t)
  end_turn n r h place e b = left ∙ ap trim_end (last_apart t n h place) ∙ trim_end_back (take n t) (all_cons (sym e ∙ b) all_nil)

  pub end_stop : (n : ℕ) (r : Bool) → 0 < length t → n ≡ length t - 1 → r ≡ is_blank (get_or t n 0) → r ≡ false → t ≡ trim_end s
  end_stop n r h place e b =
      let whole = last_apart t n h place in
      whole ∙ sym (left ∙ ap trim_end whole ∙ trim_end_up_to (take n t) (get_or t n 0) (sym e ∙ b) [])
