-- Every limit of the requirements.
use Rattle.std.specs.Prelude.{ℕ}

-- RFC 1035 section 2.3.4: the octets of a label, and of a name in wire form with its closing zero octet.
unfoldable pub max_label_octets : ℕ
max_label_octets = 63

unfoldable pub max_name_octets : ℕ
max_name_octets = 255

-- An issuer domain name as text: 255 octets without the first length octet and the closing zero.
unfoldable pub max_issuer_octets : ℕ
max_issuer_octets = 253

-- A request: its octets, and how many names it holds.
unfoldable pub max_request_octets : ℕ
max_request_octets = 16384

unfoldable pub max_names : ℕ
max_names = 250

-- The records to decide by (the requirements' "book"): their octets, and how many there are.
unfoldable pub max_book_octets : ℕ
max_book_octets = 49152

unfoldable pub max_records : ℕ
max_records = 1024

-- CAA data when it is written as a line or read from one, and the line itself.
unfoldable pub max_data_octets : ℕ
max_data_octets = 4096

unfoldable pub max_line_octets : ℕ
max_line_octets = 16384

-- The tag length of CAA data is one octet (RFC 8659 section 4.1).
unfoldable pub max_tag_octets : ℕ
max_tag_octets = 255

-- An account text, and a method text, of a request (RFC 8657).
unfoldable pub max_account_octets : ℕ
max_account_octets = 255

-- The aliases that one lookup follows.
unfoldable pub max_aliases : ℕ
max_aliases = 8
