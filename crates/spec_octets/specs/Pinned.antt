-- Equations that restate a definition, so that it can't change unnoticed. Each is proved under its name in proofs/.
use Rattle.std.specs.Prelude.{ℕ, ◌<◌, ◌≤◌, ◌↔◌, ◌⊎◌, List, map, [], ◌∷◌, ◌++◌, ◌≡◌, length, drop, Some}
use Rattle.spec_octets.specs.Lists.{All}
use Rattle.spec_octets.specs.Octets.{Octets, lower, lowered, hyphen}
use Rattle.spec_octets.specs.Pieces.{join}
use Rattle.spec_octets.specs.Reader.{remainder}
use Rattle.spec_octets.specs.Grammar.{Production, optional}
use Rattle.spec_octets.specs.Buffer.{filled, filled_length}

-- Octets are all the numbers below 256, so any slice of octets is such a list.
abbrev pub OctetsBelow256 : Type 0
OctetsBelow256 = (s : List ℕ) → Octets s ↔ All (λ x. x < 256) s

-- A text is put in lower case octet by octet, whatever its length.
abbrev pub SmallLetters : Type 0
SmallLetters = (s : List ℕ) → lowered s ≡ map lower s

abbrev pub HyphenOctet : Type 0
HyphenOctet = hyphen ≡ 45

-- One piece is joined to itself. Of several, the first comes first, then c, then the others joined.
abbrev pub JoinForm : Type 0
JoinForm =
    (c : ℕ) → (join c [] ≡ []) × ((p : List ℕ) → join c (p ∷ []) ≡ p)
    × ((p q : List ℕ) (ps : List (List ℕ)) → join c (p ∷ q ∷ ps) ≡ p ++ (c ∷ join c (q ∷ ps)))

-- `remainder` reads everything and leaves nothing.
abbrev pub RemainderWhole : Type 0
RemainderWhole = (s : List ℕ) → remainder s ≡ Some (s, [])

-- An optional production matches the empty text, and what the production itself matches.
abbrev pub OptionalForm : Type 1
OptionalForm = (p : Production) (s : List ℕ) → optional p s ↔ ((s ≡ []) ⊎ p s)

-- If the buffer is long enough, e is written at its start and the other octets are unchanged. If not, nothing is written.
abbrev pub BufferFilled : Type 0
BufferFilled =
    (e d : List ℕ) →
    (length e ≤ length d → (filled e d ≡ e ++ drop (length e) d) × (filled_length e d ≡ length e))
    × (length d < length e → (filled e d ≡ d) × (filled_length e d ≡ 0))
