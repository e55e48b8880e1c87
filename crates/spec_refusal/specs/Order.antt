-- The order of checks: where several refusals apply to the inputs of a call, the first of them in this order is the answer.
use Rattle.std.specs.Prelude.{ℕ, suc, cond, List, [], ◌∷◌, eqb}
use Rattle.spec_refusal.specs.declared.Refusal.{Refusal}
use Rattle.spec_refusal.specs.Refusal.{number}

-- The numbers of the refusals, the first check first. Each call makes some of these checks. 2 and 3 never apply together, nor do
-- two of 6, 7 and 12.
abbrev pub order : List ℕ
order = 1 ∷ 2 ∷ 3 ∷ 4 ∷ 15 ∷ 14 ∷ 5 ∷ 6 ∷ 7 ∷ 12 ∷ 8 ∷ []

-- The position of a number in a list, from 0: of its first occurrence. The length of the list if it isn't there.
abbrev pub stands_at : ℕ → List ℕ → ℕ
stands_at n [] = 0
stands_at n (m ∷ ms) = cond (eqb n m) 0 (suc (stands_at n ms))

-- The position of a refusal in the order of checks.
unfoldable pub rank : Refusal → ℕ
rank r = stands_at (number r) order
