-- TLSA data, and services, each with what the requirements say of it. Worked out by hand.
use Rattle.std.specs.Prelude.{ℕ, List, [], ◌∷◌, ◌++◌, replicate, Option, None, Some}
use Prim.Native.Char.{code}
use Prim.Native.String.{String}
use Rattle.spec_octets.specs.Octets.{text}
use Rattle.spec_name.specs.Names.{Name, wire}
use Rattle.spec_rule.specs.Edges.{dotted}
use Rattle.spec_tlsa.specs.Association.{Association}
use Rattle.spec_tlsa.specs.Owners.{Service}

-- Data of 0 to 5 octets, and fields of any value.
abbrev pub association_edges : List (List ℕ × Option Association)
association_edges =
    ([], None)
    ∷ (3 ∷ [], None)
    ∷ (3 ∷ 1 ∷ [], None)
    ∷ (3 ∷ 1 ∷ 0 ∷ [], None)
    ∷ (3 ∷ 1 ∷ 0 ∷ 48 ∷ [], Some (record { usage = 3; selector = 1; matching = 0; octets = 48 ∷ [] }))
    ∷ (0 ∷ 1 ∷ 2 ∷ 48 ∷ 49 ∷ [], Some (record { usage = 0; selector = 1; matching = 2; octets = 48 ∷ 49 ∷ [] }))
    ∷ (255 ∷ 254 ∷ 253 ∷ 0 ∷ [], Some (record { usage = 255; selector = 254; matching = 253; octets = 0 ∷ [] }))
    ∷ []

-- A service at a host that is written with dots, or whose octets are given.
abbrev pub service : String → String → String → Service
service h p t = record { host = wire (dotted h); port = text p; transport = text t }

abbrev pub service_at : List ℕ → String → String → Service
service_at h p t = record { host = h; port = text p; transport = text t }

-- A host of 194 and k octets: labels of 63, 63, 63 and k letters.
abbrev pub letters : ℕ → List ℕ
letters n = replicate n (code "a")

abbrev pub long_host : ℕ → Name
long_host k = letters 63 ∷ letters 63 ∷ letters 63 ∷ letters k ∷ []

-- Port p of a.example is good, with this first label; or it is no port.
abbrev pub good_port : String → Service × Option Name
good_port p = (service "a.example" p "tcp", Some ((code "_" ∷ text p) ∷ dotted "_tcp.a.example"))

abbrev pub bad_port : String → Service × Option Name
bad_port p = (service "a.example" p "tcp", None)

-- The same for a transport, and for a host.
abbrev pub good_transport : String → Service × Option Name
good_transport t = (service "a.example" "443" t, Some (text "_443" ∷ (code "_" ∷ text t) ∷ dotted "a.example"))

abbrev pub bad_transport : String → Service × Option Name
bad_transport t = (service "a.example" "443" t, None)

abbrev pub bad_host : List ℕ → Service × Option Name
bad_host h = (service_at h "443" "tcp", None)

abbrev pub owner_edges : List (Service × Option Name)
owner_edges =
    -- RFC 6698 section 3. The host keeps its letter case.
    (service "www.example.com" "443" "tcp", Some (dotted "_443._tcp.www.example.com"))
    ∷ (service "mail.example.com" "25" "tcp", Some (dotted "_25._tcp.mail.example.com"))
    ∷ (service "WWW.Example.com" "443" "tcp", Some (dotted "_443._tcp.WWW.Example.com"))
    -- Ports: 0 to 65,535 without leading zeros.
    ∷ good_port "0"
    ∷ good_port "9"
    ∷ good_port "10"
    ∷ good_port "65534"
    ∷ good_port "65535"
    ∷ bad_port "65536"
    ∷ bad_port "70000"
    ∷ bad_port "99999"
    ∷ bad_port "100000"
    ∷ bad_port ""
    ∷ bad_port "00"
    ∷ bad_port "01"
    ∷ bad_port "0443"
    ∷ bad_port "00443"
    ∷ bad_port "+1"
    ∷ bad_port "-1"
    ∷ bad_port "4 3"
    ∷ bad_port " 443"
    ∷ bad_port "443 "
    ∷ bad_port "44/"
    ∷ bad_port "44:"
    ∷ bad_port "4a"
    -- Transports: three texts in lower case.
    ∷ good_transport "tcp"
    ∷ good_transport "udp"
    ∷ good_transport "sctp"
    ∷ bad_transport "TCP"
    ∷ bad_transport "_tcp"
    ∷ bad_transport "tc"
    ∷ bad_transport "tcpp"
    ∷ bad_transport "dccp"
    ∷ bad_transport ""
    -- Hosts: nothing, the root, a wildcard, an underscore; a name that is cut off; an octet and a name behind the name.
    ∷ bad_host []
    ∷ bad_host (0 ∷ [])
    ∷ bad_host (1 ∷ 42 ∷ 1 ∷ 97 ∷ 0 ∷ [])
    ∷ bad_host (4 ∷ (text "_tcp" ++ (1 ∷ 97 ∷ 0 ∷ [])))
    ∷ bad_host (1 ∷ 97 ∷ [])
    ∷ bad_host (1 ∷ 97 ∷ 0 ∷ 0 ∷ [])
    ∷ bad_host (1 ∷ 97 ∷ 0 ∷ 1 ∷ 97 ∷ 0 ∷ [])
    ∷ (service_at (1 ∷ 97 ∷ 0 ∷ []) "443" "tcp", Some (dotted "_443._tcp.a"))
    -- The shortest prefix takes 8 octets: hosts of 247 and 248 octets. The longest takes 13: hosts of 242 and 243 octets.
    ∷ (service_at (wire (long_host 53)) "1" "tcp", Some (text "_1" ∷ text "_tcp" ∷ long_host 53))
    ∷ (service_at (wire (long_host 54)) "1" "tcp", None)
    ∷ (service_at (wire (long_host 48)) "65535" "sctp", Some (text "_65535" ∷ text "_sctp" ∷ long_host 48))
    ∷ (service_at (wire (long_host 49)) "65535" "sctp", None)
    ∷ (service_at (wire (long_host 61)) "1" "tcp", None)
    ∷ (service_at (wire (long_host 62)) "1" "tcp", None)
    ∷ []
