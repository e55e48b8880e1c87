-- A caller's buffer after octets were written at its start.
use Rattle.std.specs.Prelude.{ℕ, ◌≡◌, cond, List, ◌++◌, leb, length, drop}

-- The buffer d after writing e at its start; d unchanged if e is longer than d.
unfoldable pub filled : List ℕ → List ℕ → List ℕ
filled e d = cond (leb (length e) (length d)) (e ++ drop (length e) d) d

-- How many octets were written: the length of e, or 0 if e is longer than d.
unfoldable pub filled_length : List ℕ → List ℕ → ℕ
filled_length e d = cond (leb (length e) (length d)) (length e) 0

-- The octets e were written at the start of the buffer d, which is now x; the other octets of d are unchanged. n is the length of e.
pub record Put (e d x : List ℕ) (n : ℕ) : Type 0 where
  pub count : n ≡ length e
  pub octets : x ≡ e ++ drop (length e) d
