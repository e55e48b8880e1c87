-- Numbers written in decimal, without leading zeros.
use Rattle.std.specs.Prelude.{ℕ, zero, suc, ◌+◌, ◌/◌, ◌%◌, cond, List, [], ◌∷◌, ◌++◌, ltb}
use Prim.Native.Char.{code}

-- The ASCII digit of a number below 10.
abbrev pub digit : ℕ → ℕ
digit d = code "0" + d

-- A number below 10 is its digit; any other is the digits of n / 10, then the last digit. `steps` bounds the recursion: n steps are
-- enough for n, because n / 10 is less than n.
abbrev pub decimal_within : ℕ → ℕ → List ℕ
decimal_within zero n = digit n ∷ []
decimal_within (suc steps) n = cond (ltb n 10) (digit n ∷ []) (decimal_within steps (n / 10) ++ (digit (n % 10) ∷ []))

unfoldable pub decimal : ℕ → List ℕ
decimal n = decimal_within n n

-- A number below 1000 in three digits, with leading zeros.
abbrev pub three_digits : ℕ → List ℕ
three_digits n = digit (n / 100) ∷ digit (n / 10 % 10) ∷ digit (n % 10) ∷ []
