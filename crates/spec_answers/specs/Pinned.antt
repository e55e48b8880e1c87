-- Equations that restate a definition, so that it can't change unnoticed. Each is proved under its name in proofs/.
use Rattle.std.specs.Prelude.{ℕ, ◌≡◌, [], ◌∷◌, Ok, Err}
use Rattle.spec_refusal.specs.Refusal.{number, place}
use Rattle.spec_answers.specs.Answers.{value_of}
use Rattle.spec_refusal.specs.declared.Refusal.{Refusal}
use Rattle.spec_answers.specs.LineAnswers.{line_code}

-- The values of an answer in their order, and 0 for those that it doesn't have.
abbrev pub ValuesInOrder : Type 0
ValuesInOrder =
    ((n a b c : ℕ) →
    (value_of (record { number = n; values = a ∷ b ∷ c ∷ [] }) 0 ≡ a) × (value_of (record { number = n; values = a ∷ b ∷ c ∷ [] }) 1 ≡ b)
    × (value_of (record { number = n; values = a ∷ b ∷ c ∷ [] }) 2 ≡ c))
    × ((n a b : ℕ) →
    (value_of (record { number = n; values = a ∷ b ∷ [] }) 0 ≡ a) × (value_of (record { number = n; values = a ∷ b ∷ [] }) 1 ≡ b)
    × (value_of (record { number = n; values = a ∷ b ∷ [] }) 2 ≡ 0))
    × ((n a : ℕ) → (value_of (record { number = n; values = a ∷ [] }) 0 ≡ a) × (value_of (record { number = n; values = a ∷ [] }) 1 ≡ 0)
    × (value_of (record { number = n; values = a ∷ [] }) 2 ≡ 0))
    × ((n : ℕ) → (value_of (record { number = n; values = [] }) 0 ≡ 0) × (value_of (record { number = n; values = [] }) 1 ≡ 0)
    × (value_of (record { number = n; values = [] }) 2 ≡ 0))

-- Number 0 with the length of the output, or a refusal with its number and place.
abbrev pub LineCodes : Type 0
LineCodes =
    ((n : ℕ) → line_code (Ok n) ≡ record { number = 0; values = n ∷ [] })
    × ((r : Refusal) → line_code (Err r) ≡ record { number = number r; values = place r ∷ [] })
