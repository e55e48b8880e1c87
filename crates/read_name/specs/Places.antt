-- The same definitions over offsets, for code that walks a slice: `name_end s at` is about the octets of `s` from offset `at` on.
use Rattle.std.specs.Prelude.{ℕ, ◌+◌, cond, ◌||◌, List, [], ◌∷◌, eqb, ltb, length, drop, Option, None, Some}
use Rattle.spec_octets.specs.Reader.{place_of}
use Rattle.spec_name.specs.Names.{Name, name}

-- A name ends where the remaining octets begin.
abbrev pub end_of : List ℕ → Option (Name × List ℕ) → Option ℕ
end_of s None = None
end_of s (Some r) = Some (place_of s r.1)

-- The offset at which the name that begins at `at` ends.
unfoldable pub name_end : List ℕ → ℕ → Option ℕ
name_end s at = end_of s (name (drop at s))

-- The offset of the parent: the one after the label at `at`, where s are the octets from `at` on. `at` itself if no complete label is there.
abbrev pub parent_from : ℕ → List ℕ → ℕ
parent_from at [] = at
parent_from at (n ∷ s) = cond (eqb n 0 || ltb (length s) n) at (at + 1 + n)

unfoldable pub parent_place : List ℕ → ℕ → ℕ
parent_place s at = parent_from at (drop at s)
