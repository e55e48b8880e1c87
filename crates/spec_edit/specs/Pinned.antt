-- An equation that restates a definition, so that it can't change unnoticed. It is proved under its name in proofs/.
use Rattle.std.specs.Prelude.{◌≡◌, [], ◌∷◌}
use Rattle.spec_refusal.specs.declared.Refusal.{Refusal}
use Rattle.spec_refusal.specs.Refusal.{number, place}
use Rattle.spec_edit.specs.declared.Edited.TheVariants.{MayBeLeft, Redo, Refused, BadOwner}
use Rattle.spec_edit.specs.Edits.{edited_code}

-- The numbers of the answers: 50 and 51 without a value; for a refusal its own number and place; 17 with the place 0.
abbrev pub EditedCodes : Type 0
EditedCodes =
    (edited_code MayBeLeft ≡ record { number = 50; values = [] }) × (edited_code Redo ≡ record { number = 51; values = [] })
    × ((r : Refusal) → edited_code (Refused r) ≡ record { number = number r; values = place r ∷ [] })
    × (edited_code BadOwner ≡ record { number = 17; values = 0 ∷ [] })
