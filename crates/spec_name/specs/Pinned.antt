-- A round-trip theorem doesn't fix a format: change reader and writer together, and it still holds. So an equation spells it out.
-- It is proved under its name in proofs/.
use Rattle.std.specs.Prelude.{◌≡◌, [], ◌∷◌, ◌++◌, length}
use Rattle.spec_name.specs.Names.{Label, Name, wire}

-- Each label follows its own length octet, and a zero octet ends the name.
abbrev pub WireForm : Type 0
WireForm = (wire [] ≡ 0 ∷ []) × ((l : Label) (ls : Name) → wire (l ∷ ls) ≡ length l ∷ (l ++ wire ls))
