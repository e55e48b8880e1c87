-- The key of an owner: a hash of its octets. The proofs use one fact about it: names that are equal, letter case ignored, have the same key.
use Rattle.std.specs.Prelude.{ℕ, ◌+◌, ◌-◌, ◌*◌, ◌%◌, List, [], ◌∷◌, length, take, drop}
use Rattle.spec_limits.specs.Limits.{max_records}
use Rattle.spec_octets.specs.Octets.{lower}

-- A 16-bit hash of a text, started from h; letter case is ignored.
abbrev pub mixed : ℕ → List ℕ → ℕ
mixed h [] = h
mixed h (x ∷ s) = mixed ((31 * h + lower x) % 65536) s

-- The hash of the length, the first ten octets and the last six octets. The key is below `max_records`.
unfoldable pub key_of : List ℕ → ℕ
key_of x = mixed (mixed (length x % 65536) (take 10 x)) (drop (length x - 6) x) % max_records
