-- The end of a field that begins at an offset, found octet by octet.
use Prim.Native.Nat.{ℕ, ◌+◌, ◌≤◌, ◌<◌}
use native.Mathlib.Omega.{arith}
use mathlib.Core.Path.{◌≡◌, sym, ◌∙◌}
use mathlib.Core.Bool.{Bool, true, false}
use mathlib.Core.List.{List}
use lib.ListN.{length, get_or, drop_of_length-le}
use Rattle.spec_octets.specs.Octets.{is_blank}
use Rattle.spec_octets.proofs.Walks.{drop_step}
use Rattle.line_fields.specs.Places.{field_end}

module _ (s : List ℕ) (at e : ℕ) (left : field_end s at ≡ field_end s e) where
  module _ (b : Bool) (h : e < length s) (told : b ≡ is_blank (get_or s e 0)) where
    pub field_goes_on : (j : ℕ) → b ≡ false → j ≡ e + 1 → field_end s at ≡ field_end s j
    unfolding field_end
    field_goes_on j no_blank next = left ∙ rw (drop_step 0 s e j h next, ← told, no_blank) (omega arith)

    pub field_stops : b ≡ true → e ≡ field_end s at
    unfolding field_end
    field_stops blank = sym (left ∙ rw (drop_step 0 s e (e + 1) h, ← told, blank) (omega arith))

  pub line_ends : length s ≤ e → e ≡ field_end s at
  unfolding field_end
  line_ends h = sym (left ∙ rw (drop_of_length-le s h) (omega arith))
