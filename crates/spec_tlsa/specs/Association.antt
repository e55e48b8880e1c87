-- TLSA data (RFC 6698 section 2.1): certificate usage, selector, matching type, and the certificate association data.
use Rattle.std.specs.Prelude.{ℕ, Bool, ◌&&◌, List, ◌∷◌, leb, eqb, length, Option, None, Some}
use Rattle.spec_octets.specs.Reader.{Reader, given, ◌>>=◌, if_read, octet, remainder}

pub record Association : Type 0 where
  pub usage : ℕ
  pub selector : ℕ
  pub matching : ℕ
  pub octets : List ℕ

-- "Type 52, class 1" (RFC 6698 section 7.1).
unfoldable pub is_tlsa : ℕ → ℕ → Bool
is_tlsa type class = eqb type 52 && eqb class 1

-- Usage, selector and matching type (1 octet each), then the association data.
abbrev pub wire_association : Association → List ℕ
wire_association a = a.usage ∷ a.selector ∷ a.matching ∷ a.octets

-- "Fewer than 4 octets" is malformed: the association data has at least one octet.
unfoldable pub read_association : Reader Association
read_association = do
  u ← octet
  s ← octet
  m ← octet
  d ← remainder
  given (leb 1 (length d)) (record { usage = u; selector = s; matching = m; octets = d })

-- The association in TLSA data; none if the data is malformed.
unfoldable pub association : List ℕ → Option Association
association d = if_read None (read_association d) (λ a rest. Some a)

-- RFC 6698 sections 2.1.1 to 2.1.3: the values that are known. Of the matching types this is 0 alone, no hash, for now.
unfoldable pub is_usage : ℕ → Bool
is_usage x = leb x 3

unfoldable pub is_selector : ℕ → Bool
is_selector x = leb x 1

unfoldable pub is_matching_type : ℕ → Bool
is_matching_type x = eqb x 0
