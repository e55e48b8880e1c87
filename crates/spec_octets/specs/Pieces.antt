-- Splitting a text at a separator octet, and joining it again.
use Rattle.std.specs.Prelude.{ℕ, cond, List, [], ◌∷◌, ◌++◌, eqb}

-- Puts x at the start of the first piece.
abbrev pub extend : ℕ → List (List ℕ) → List (List ℕ)
extend x [] = (x ∷ []) ∷ []
extend x (p ∷ ps) = (x ∷ p) ∷ ps

-- The pieces between the separators c: one piece more than there are separators. Pieces may be empty.
abbrev pub split : ℕ → List ℕ → List (List ℕ)
split c [] = [] ∷ []
split c (x ∷ s) = cond (eqb x c) (◌∷◌ []) (extend x) (split c s)

-- The pieces with c between every two of them.
abbrev pub join : ℕ → List (List ℕ) → List ℕ
join c [] = []
join c (p ∷ []) = p
join c (p ∷ q ∷ ps) = p ++ (c ∷ join c (q ∷ ps))
