-- Definitions by offset, for code that walks a slice: each applies a definition over values to the octets from an offset on. A piece of a text is a
-- part between two separators (`split` in spec_octets).
use Rattle.std.specs.Prelude.{ℕ, ◌+◌, List, [], ◌∷◌, length, drop}
use Rattle.spec_octets.specs.Pieces.{split}

-- The first piece; the empty text if there is none.
abbrev pub first_piece : List (List ℕ) → List ℕ
first_piece [] = []
first_piece (p ∷ ps) = p

-- The offset where the piece that begins at offset `at` ends; c is the separator.
unfoldable pub piece_end : ℕ → List ℕ → ℕ → ℕ
piece_end c s at = at + length (first_piece (split c (drop at s)))
