-- Steps of a loop from piece to piece: the piece at a place, what is left after it, and `all` of the pieces by what is left.
use Prim.Native.Nat.{ℕ, suc, ◌+◌, ◌-◌, ◌≤◌, ◌<◌}
use native.Mathlib.Omega.{arith}
use mathlib.Core.Path.{◌≡◌, refl, ap, ◌∙◌}
use mathlib.Core.Bool.{Bool, true, false, cond}
use mathlib.Core.List.{List, [], ◌∷◌}
use lib.Dec.{eqb, ltb, leb-suc-suc}
use lib.ListN.{length, take, drop, length-drop, length-take}
use lib.Seq.{drop-drop}
use borrow.Author.Tests.{lt-ltb, le-ltb}
use Rattle.spec_octets.specs.Lists.{all}
use Rattle.spec_octets.specs.Pieces.{extend, split}
use Rattle.text_labels.specs.Places.{first_piece, piece_end}
use Rattle.text_labels.proofs.PieceEnds.{first_extend}

module _ (c : ℕ) where
  -- how long the first piece is
  abbrev lead : List ℕ → ℕ
  lead s = length (first_piece (split c s))

  -- the pieces after the first: none where it ends with s
  abbrev after : List ℕ → List (List ℕ)
  after s = cond (ltb (lead s) (length s)) (split c (drop (suc (lead s)) s)) []

  pieces : (s : List ℕ) → split c s ≡ take (lead s) s ∷ after s
  pieces [] = refl
  pieces (x ∷ s) = go (eqb x c) refl (pieces s)
    where
      go : (t : Bool) → eqb x c ≡ t → split c s ≡ take (lead s) s ∷ after s →
          split c (x ∷ s) ≡ take (lead (x ∷ s)) (x ∷ s) ∷ after (x ∷ s)
      go true e rest = rw (e, lt-ltb 0 (length (x ∷ s)) (omega arith))
      go false e rest = rw (e, first_extend x (split c s), leb-suc-suc (suc (lead s)) (length s)) (ap (extend x) rest)

  within : (s : List ℕ) → lead s ≤ length s
  within s = rw (ap (λ ps. length (first_piece ps)) (pieces s)) (omega (arith, length-take (lead s) s))

  module _ (s : List ℕ) (at e : ℕ) (found : e ≡ piece_end c s at) where
    piece : take (lead (drop at s)) (drop at s) ≡ take (e - at) (drop at s)
    unfolding piece_end
    piece = let n : lead (drop at s) ≡ e - at = omega arith in ap (λ k. take k (drop at s)) n

    -- the piece lies within s
    pub piece_from : at ≤ e
    unfolding piece_end
    piece_from = omega arith

    pub piece_within : at ≤ length s → e ≤ length s
    unfolding piece_end
    piece_within h = omega (arith, within (drop at s), length-drop at s)

    pub pieces_less : (j : ℕ) → e < length s → j ≡ e + 1 → length s - j < length s - at
    pieces_less j h next = omega (arith, piece_from)

    pub pieces_more : (j : ℕ) → e < length s → j ≡ e + 1 → split c (drop at s) ≡ take (e - at) (drop at s) ∷ split c (drop j s)
    unfolding piece_end
    pieces_more j h next =
        let n = lead (drop at s) in
        let rest : at + suc n ≡ j = omega arith in
        pieces (drop at s)
        ∙ rw (lt-ltb n (length (drop at s)) (omega (arith, length-drop at s)), drop-drop (suc n) at s, rest, piece)

    pub pieces_last : length s ≤ e → split c (drop at s) ≡ take (e - at) (drop at s) ∷ []
    unfolding piece_end
    pieces_last h = pieces (drop at s) ∙ rw (le-ltb (lead (drop at s)) (length (drop at s)) (omega (arith, length-drop at s)), piece)

    -- x is the piece at the place, and r what p says of it
    module _ (p : List ℕ → Bool) (left : all p (split c s) ≡ all p (split c (drop at s)))
        (x : List ℕ) (r : Bool) (part : x ≡ take (e - at) (drop at s)) (told : r ≡ p x) where
      pub pieces_turn : (j : ℕ) → r ≡ true → e < length s → j ≡ e + 1 → all p (split c s) ≡ all p (split c (drop j s))
      pieces_turn j t h next = left ∙ rw (pieces_more j h next, ← part, ← told, t)

      pub pieces_end : r ≡ true → length s ≤ e → all p (split c s) ≡ true
      pieces_end t h = left ∙ rw (pieces_last h, ← part, ← told, t)

      pub pieces_stop : r ≡ false → all p (split c s) ≡ false
      pieces_stop t = left ∙ rw (pieces (drop at s), piece, ← part, ← told, t)
