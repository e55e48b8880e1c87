-- The match on octets, each with the answer that the requirements state. Worked out by hand.
use Rattle.std.specs.Prelude.{ℕ, List, [], ◌∷◌, ◌++◌}
use Prim.Native.String.{String}
use Rattle.spec_refusal.specs.declared.Refusal.TheVariants.{BookTooLong, BadRecord, AliasConflict}
use Rattle.spec_record.specs.Records.{Record}
use Rattle.spec_record.specs.BookEdges.{of_octets}
use Rattle.spec_rule.specs.Edges.{dotted, caa, cname}
use Rattle.spec_rule.specs.CallEdges.{book_of}
use Rattle.spec_tlsa.specs.declared.Matching.{Matching}
use Rattle.spec_tlsa.specs.declared.Matching.TheVariants.{Match, NoMatch, NothingUsable, Refused}
use Rattle.spec_tlsa.specs.Owners.{Service}
use Rattle.spec_tlsa.specs.Matches.{Presented}
use Rattle.spec_tlsa.specs.Calls.{bad_service, match_service}
use Rattle.spec_tlsa.specs.OwnerEdges.{service}

-- A record of any owner, type and class; and a TLSA record of _443._tcp.www.example.com with these three fields and this association data.
abbrev pub record_of : String → ℕ → ℕ → List ℕ → Record
record_of owner type class d = record { owner = dotted owner; type = type; class = class; ttl = 3600; rdata = d }

abbrev pub tlsa_owned : String → ℕ → ℕ → ℕ → List ℕ → Record
tlsa_owned owner u s m d = record_of owner 52 1 (u ∷ s ∷ m ∷ d)

abbrev pub tlsa : ℕ → ℕ → ℕ → List ℕ → Record
tlsa u s m d = tlsa_owned "_443._tcp.www.example.com" u s m d

-- An address record of the owner.
abbrev pub address : Record
address = record_of "_443._tcp.www.example.com" 1 1 (192 ∷ 0 ∷ 2 ∷ 1 ∷ [])

abbrev pub www : Service
www = service "www.example.com" "443" "tcp"

-- A certificate of five octets and a key of three, as good as any; and what is presented for a usage.
abbrev pub certificate : List ℕ
certificate = 48 ∷ 3 ∷ 1 ∷ 2 ∷ 3 ∷ []

abbrev pub key : List ℕ
key = 48 ∷ 1 ∷ 7 ∷ []

abbrev pub presented : ℕ → Presented
presented u = record { usage = u; certificate = certificate; key = key }

-- What the call answers, and what the requirements state.
pub record MatchEdge : Type 0 where
  pub answered : Matching
  pub stated : Matching

abbrev pub edge_for : Service → Presented → List ℕ → Matching → MatchEdge
edge_for s c book m = record { answered = match_service s c book; stated = m }

-- The same for usage 3 at www, by these records.
abbrev pub edge : List Record → Matching → MatchEdge
edge rs m = edge_for www (presented 3) (book_of rs) m

abbrev pub matches : ℕ → Matching
matches k = Match (record { 0 = k })

abbrev pub match_edges : List MatchEdge
match_edges =
    -- No record; the certificate by selector 0, the key by selector 1, and each by the other selector.
    edge [] NothingUsable
    ∷ edge (tlsa 3 0 0 certificate ∷ []) (matches 0)
    ∷ edge (tlsa 3 1 0 key ∷ []) (matches 0)
    ∷ edge (tlsa 3 0 0 key ∷ []) NoMatch
    ∷ edge (tlsa 3 1 0 certificate ∷ []) NoMatch
    -- The first record that matches, numbered over the whole book.
    ∷ edge (tlsa 3 0 0 key ∷ address ∷ tlsa 3 1 0 key ∷ tlsa 3 0 0 certificate ∷ []) (matches 2)
    ∷ edge (tlsa_owned "_443._tcp.mail.example.com" 3 0 0 certificate ∷ tlsa 3 0 0 certificate ∷ []) (matches 1)
    -- Usages 0 to 3 match themselves alone. A record of another usage is usable.
    ∷ edge_for www (presented 0) (book_of (tlsa 0 0 0 certificate ∷ [])) (matches 0)
    ∷ edge_for www (presented 1) (book_of (tlsa 0 0 0 certificate ∷ tlsa 1 0 0 certificate ∷ [])) (matches 1)
    ∷ edge_for www (presented 2) (book_of (tlsa 3 0 0 certificate ∷ tlsa 2 0 0 certificate ∷ [])) (matches 1)
    ∷ edge (tlsa 2 0 0 certificate ∷ []) NoMatch
    ∷ edge (tlsa 0 0 0 certificate ∷ tlsa 1 0 0 certificate ∷ []) NoMatch
    -- An unknown usage, selector or matching type is not usable, whatever is presented.
    ∷ edge (tlsa 4 0 0 certificate ∷ []) NothingUsable
    ∷ edge_for www (presented 4) (book_of (tlsa 4 0 0 certificate ∷ [])) NothingUsable
    ∷ edge_for www (presented 255) (book_of (tlsa 255 0 0 certificate ∷ [])) NothingUsable
    ∷ edge (tlsa 3 2 0 key ∷ []) NothingUsable
    ∷ edge (tlsa 3 2 0 certificate ∷ []) NothingUsable
    ∷ edge (tlsa 3 255 0 key ∷ []) NothingUsable
    ∷ edge (tlsa 3 0 1 certificate ∷ []) NothingUsable
    ∷ edge (tlsa 3 0 255 certificate ∷ []) NothingUsable
    ∷ edge_for www (presented 7) (book_of (tlsa 3 0 0 certificate ∷ [])) NoMatch
    ∷ edge_for www (presented 7) [] NothingUsable
    -- Records that are not usable, before a match and beside a record that doesn't match.
    ∷ edge (tlsa 4 0 0 certificate ∷ tlsa 3 0 1 certificate ∷ tlsa 3 0 0 certificate ∷ []) (matches 2)
    ∷ edge (tlsa 3 0 0 key ∷ tlsa 3 2 0 certificate ∷ []) NoMatch
    -- The whole data: a prefix of the certificate, one octet more, another octet; the empty certificate and the empty key.
    ∷ edge (tlsa 3 0 0 (48 ∷ 3 ∷ 1 ∷ 2 ∷ []) ∷ []) NoMatch
    ∷ edge (tlsa 3 0 0 (48 ∷ 3 ∷ 1 ∷ 2 ∷ 3 ∷ 0 ∷ []) ∷ []) NoMatch
    ∷ edge (tlsa 3 0 0 (48 ∷ 3 ∷ 1 ∷ 2 ∷ 4 ∷ []) ∷ []) NoMatch
    ∷ edge_for www (record { usage = 3; certificate = 97 ∷ []; key = [] }) (book_of (tlsa 3 0 0 (65 ∷ []) ∷ [])) NoMatch
    ∷ edge_for www (record { usage = 3; certificate = 97 ∷ []; key = [] }) (book_of (tlsa 3 0 0 (97 ∷ []) ∷ [])) (matches 0)
    ∷ edge_for www (record { usage = 3; certificate = []; key = [] }) (book_of (tlsa 3 0 0 certificate ∷ tlsa 3 1 0 key ∷ [])) NoMatch
    -- Owners: another port, transport or host, the host itself, a parent; the same name in other letters.
    ∷ edge (tlsa_owned "_444._tcp.www.example.com" 3 0 0 certificate ∷ []) NothingUsable
    ∷ edge (tlsa_owned "_443._udp.www.example.com" 3 0 0 certificate ∷ []) NothingUsable
    ∷ edge (tlsa_owned "_443._tcp.mail.example.com" 3 0 0 certificate ∷ []) NothingUsable
    ∷ edge (tlsa_owned "www.example.com" 3 0 0 certificate ∷ tlsa_owned "_tcp.www.example.com" 3 0 0 certificate ∷ []) NothingUsable
    ∷ edge (tlsa_owned "_443._tcp.example.com" 3 0 0 certificate ∷ []) NothingUsable
    ∷ edge (tlsa_owned "*._tcp.www.example.com" 3 0 0 certificate ∷ []) NothingUsable
    ∷ edge (tlsa_owned "_443._TCP.WWW.Example.com" 3 0 0 certificate ∷ []) (matches 0)
    -- Another class, another type.
    ∷ edge (record_of "_443._tcp.www.example.com" 52 3 (3 ∷ 0 ∷ 0 ∷ certificate) ∷ []) NothingUsable
    ∷ edge (record_of "_443._tcp.www.example.com" 53 1 (3 ∷ 0 ∷ 0 ∷ certificate) ∷ []) NothingUsable
    -- Aliases are not followed, and an alias beside a TLSA record is no conflict.
    ∷ edge (cname "_443._tcp.www.example.com" "t.example" ∷ tlsa_owned "t.example" 3 0 0 certificate ∷ []) NothingUsable
    ∷ edge (cname "_443._tcp.www.example.com" "t.example" ∷ tlsa 3 0 0 certificate ∷ []) (matches 1)
    -- The order of checks: service, then the book.
    ∷ edge_for (service "www.example.com" "0443" "tcp") (presented 3) (64 ∷ []) (Refused bad_service)
    ∷ edge_for (service "*.example.com" "443" "tcp") (presented 3) [] (Refused bad_service)
    ∷ edge_for www (presented 3) (64 ∷ []) (Refused (BadRecord (record { 0 = 0 })))
    ∷ edge_for www (presented 3) (book_of (tlsa 3 0 0 certificate ∷ []) ++ (64 ∷ [])) (Refused (BadRecord (record { 0 = 1 })))
    ∷ edge (caa "a.example" 0 "issue" "ca1.example.net" ∷ cname "a.example" "b.example" ∷ tlsa 3 0 0 certificate ∷ [])
    (Refused (AliasConflict (record { 0 = 1 })))
    ∷ edge_for www (presented 3) (of_octets 49153) (Refused BookTooLong)
    ∷ []
