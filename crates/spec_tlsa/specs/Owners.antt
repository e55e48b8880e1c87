-- RFC 6698 section 3: the owner of the TLSA records of a service, such as _443._tcp.www.example.com.
use Rattle.std.specs.Prelude.{ℕ, Bool, cond, not, ◌&&◌, ◌||◌, List, ◌∷◌, leb, eqb, length, Option, None, Some}
use Prim.Native.Char.{code}
use Rattle.spec_limits.specs.Limits.{max_name_octets}
use Rattle.spec_octets.specs.Lists.{all, begins, is_empty}
use Rattle.spec_octets.specs.Octets.{text, between, same, is_digit}
use Rattle.spec_octets.specs.Decimal.{decimal_from}
use Rattle.spec_octets.specs.Reader.{if_read}
use Rattle.spec_name.specs.Names.{Label, Name, wire}
use Rattle.spec_request.specs.Request.{is_wildcard, requested_name}

-- A TLS service: its host in wire form, and port and transport as texts.
pub record Service : Type 0 where
  pub host : List ℕ
  pub port : List ℕ
  pub transport : List ℕ

unfoldable pub max_port : ℕ
max_port = 65535

-- "digits, 0 to 65,535, no leading zeros". The value of five digits is compared, so no long text is ever a number.
unfoldable pub is_port : List ℕ → Bool
is_port p =
    between 1 5 (length p) && all is_digit p && (eqb (length p) 1 || not (begins (eqb (code "0")) p)) && leb (decimal_from 0 p) max_port

-- "`tcp`, `udp` or `sctp`", in lower case.
unfoldable pub is_transport : List ℕ → Bool
is_transport t = same t (text "tcp") || same t (text "udp") || same t (text "sctp")

-- "one request name without star": the octets are exactly one such name.
unfoldable pub host_name : List ℕ → Option Name
host_name h = if_read None (requested_name h) (λ n rest. cond (is_empty rest && not (is_wildcard n)) (Some n) None)

-- A label that begins with an underscore.
abbrev pub underscored : List ℕ → Label
underscored s = code "_" ∷ s

-- Port and transport in front of the host: "_443._tcp." and the name.
abbrev pub prefixed : List ℕ → List ℕ → Name → Name
prefixed port transport x = underscored port ∷ underscored transport ∷ x

abbrev pub owner_from : List ℕ → List ℕ → Option Name → Option Name
owner_from port transport None = None
owner_from port transport (Some x) =
    cond (is_port port && is_transport transport && leb (length (wire (prefixed port transport x))) max_name_octets)
    (Some (prefixed port transport x)) None

-- The owner; none if host, port or transport breaks its rule, or the name grows over 255 octets.
unfoldable pub service_owner : Service → Option Name
service_owner s = owner_from s.port s.transport (host_name s.host)
