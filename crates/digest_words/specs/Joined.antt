-- A word from its octets.
use Rattle.std.specs.Prelude.{ℕ, cond, List, eqb, length}
use Rattle.spec_octets.specs.Reader.{value_from}
use Rattle.spec_digest.specs.Family.{Member}

-- The word of these octets, the high octet first; 0 if they are not as many as a word has.
unfoldable pub joined_in : Member → List ℕ → ℕ
joined_in m octets = cond (eqb (length octets) m.word_octets) (value_from 0 octets) 0
