-- The pieces of a text whose first piece ends at a known offset.
use Prim.Native.Nat.{ℕ, ◌+◌, ◌≤◌, ◌<◌}
use native.Mathlib.Nat.{sub-zero}
use mathlib.Core.Path.{◌≡◌, refl}
use mathlib.Core.List.{List, [], ◌∷◌}
use lib.ListN.{length, take, drop}
use Rattle.spec_octets.specs.Pieces.{split}
use Rattle.text_labels.specs.Places.{piece_end}
use Rattle.text_labels.proofs.PieceWalk.{pieces_more, pieces_last}

-- e is where the first piece ends
module _ (c : ℕ) (s : List ℕ) (e : ℕ) (cut : e ≡ piece_end c s 0) where
  pub cut_last : length s ≤ e → split c s ≡ take e s ∷ []
  cut_last h = rw sub-zero at (pieces_last c s 0 e cut h)

  pub cut_more : e < length s → split c s ≡ take e s ∷ split c (drop (e + 1) s)
  cut_more h = rw sub-zero at (pieces_more c s 0 e cut (e + 1) h refl)
