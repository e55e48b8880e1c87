-- The issuers that may issue for every name of a request (the requirements' "who may issue"), and how a buffer lists them.
use Rattle.std.specs.Prelude.{ℕ, not, List, [], ◌∷◌, map, length}
use Rattle.spec_octets.specs.Lists.{all, select, flatten}
use Rattle.spec_octets.specs.Octets.{same}
use Rattle.spec_octets.specs.Reader.{Reader, ◌>>=◌, octet, octets}
use Rattle.spec_rule.specs.Authorizations.{Authorization, unrestricted, forbidden, granted, unresolved, permits}

pub data Issuers : Type 0 where
  anyone : Issuers
  listed : List (List ℕ) → Issuers

-- Each element once, at its first position.
abbrev pub distinct : List (List ℕ) → List (List ℕ)
distinct [] = []
distinct (n ∷ ns) = n ∷ select (λ m. not (same m n)) (distinct ns)

-- Anyone, if no name is restricted. Otherwise the issuers granted for the first restricted name, in that order, that every later name permits.
abbrev pub issuers : List Authorization → Issuers
issuers [] = anyone
issuers (unrestricted ∷ rest) = issuers rest
issuers (forbidden r ∷ rest) = listed []
issuers (granted r ns ∷ rest) = listed (select (λ n. all (permits n) rest) (distinct ns))
issuers (unresolved r ∷ rest) = listed []

-- A name as one length octet and its octets.
abbrev pub entry : List ℕ → List ℕ
entry n = length n ∷ n

abbrev pub entries : List (List ℕ) → List ℕ
entries ns = flatten (map entry ns)

-- How a caller reads an entry: the length octet, and then that many octets.
unfoldable pub read_entry : Reader (List ℕ)
read_entry = do
  n ← octet
  octets n
