-- What the definitions of this crate mean. Each statement is proved under its name in proofs/.
use Rattle.std.specs.Prelude.{ℕ, ◌≤◌, ◌≡◌, List, [], ◌∷◌, ◌++◌, length, drop}
use Rattle.spec_name.specs.Names.{Name, wire}
use Rattle.read_name.specs.Places.{parent_place}

-- From a label, parent_place is the offset of the name without its first label. At the root it is the same offset.
abbrev pub ParentByPlace : Type 0
ParentByPlace =
    ((p l : List ℕ) (ls : Name) (rest : List ℕ) → 1 ≤ length l →
    drop (parent_place (p ++ (wire (l ∷ ls) ++ rest)) (length p)) (p ++ (wire (l ∷ ls) ++ rest)) ≡ wire ls ++ rest)
    × ((p rest : List ℕ) → parent_place (p ++ (wire [] ++ rest)) (length p) ≡ length p)
