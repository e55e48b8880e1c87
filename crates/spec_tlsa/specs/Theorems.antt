-- What the definitions of this crate mean. Each statement is proved under its name in proofs/.
use Rattle.std.specs.Prelude.{ℕ, ◌≤◌, ◌<◌, ◌≡◌, ◌↔◌, ◌⊎◌, true, List, [], ◌∷◌, ◌++◌, map, length, drop, replicate, None, Some, Ok, Err}
use Rattle.spec_refusal.specs.declared.Refusal.{Refusal}
use Rattle.spec_refusal.specs.declared.Refusal.TheVariants.{NoRoom}
use Rattle.spec_octets.specs.Lists.{All}
use Rattle.spec_octets.specs.Octets.{Octets, text}
use Rattle.spec_octets.specs.WrittenDecimal.{decimal}
use Rattle.spec_name.specs.Names.{Name, wire, GoodName}
use Rattle.spec_record.specs.Records.{Record, records, book_refusal}
use Rattle.spec_rule.specs.Theorems.{FirstRow}
use Rattle.spec_tlsa.specs.declared.Matching.TheVariants.{Refused}
use Rattle.spec_tlsa.specs.Association.{Association, association, is_usage, is_selector, is_matching_type}
use Rattle.spec_tlsa.specs.Owners.{Service, max_port, is_port, service_owner}
use Rattle.spec_tlsa.specs.Matches.{TlsaRecord, tlsa_records, tlsa_at, Presented, matching}
use Rattle.spec_tlsa.specs.Calls.{bad_service, write_owner, match_service}
use Rattle.spec_tlsa.specs.Meaning.{Holds, TlsaRecordsOf, OwnerOf, MatchOn, MatchRow}
use Rattle.spec_tlsa.specs.OwnerEdges.{association_edges, service, owner_edges}
use Rattle.spec_tlsa.specs.MatchEdges.{match_edges}

-- Data holds an association exactly when it is the wire form of that association, with one octet of association data or more.
abbrev pub AssociationIsItsParts : Type 0
AssociationIsItsParts = (d : List ℕ) (a : Association) → (association d ≡ Some a) ↔ Holds d a

-- The table of data in OwnerEdges.antt.
abbrev pub AssociationEdges : Type 0
AssociationEdges = map (λ e. association e.0) association_edges ≡ map (λ e. e.1) association_edges

-- Usages 0 to 3, selectors 0 and 1, matching type 0.
abbrev pub KnownFields : Type 0
KnownFields =
    (x : ℕ) →
    ((is_usage x ≡ true) ↔ ((x ≡ 0) ⊎ (x ≡ 1) ⊎ (x ≡ 2) ⊎ (x ≡ 3)))
    × ((is_selector x ≡ true) ↔ ((x ≡ 0) ⊎ (x ≡ 1)))
    × ((is_matching_type x ≡ true) ↔ (x ≡ 0))

-- The ports are the numbers up to 65,535, each in decimal without leading zeros.
abbrev pub PortIsADecimal : Type 0
PortIsADecimal = (p : List ℕ) → (is_port p ≡ true) ↔ ((n : ℕ) × (p ≡ decimal n) × (n ≤ max_port))

-- A service has the owner x exactly when host, port and transport keep their rules, and x is made of them.
abbrev pub OwnerIsItsParts : Type 0
OwnerIsItsParts = (s : Service) → Octets s.host → (x : Name) → (service_owner s ≡ Some x) ↔ OwnerOf s x

-- The owner is a valid name.
abbrev pub OwnerIsValid : Type 0
OwnerIsValid = (s : Service) (x : Name) → OwnerOf s x → GoodName x

-- The table of services in OwnerEdges.antt.
abbrev pub OwnerEdges : Type 0
OwnerEdges = map (λ e. service_owner e.0) owner_edges ≡ map (λ e. e.1) owner_edges

-- RFC 6698 section 3, its two examples octet by octet: HTTPS at www.example.com, SMTP at mail.example.com. A buffer that is just long enough,
-- and one octet too short. A refused service in a buffer that is too short.
abbrev pub OwnerExamples : Type 0
OwnerExamples =
    (write_owner (service "www.example.com" "443" "tcp") (replicate 30 46)
    ≡ record {
      answer = Ok 27;
      buffer =
          (4 ∷ 95 ∷ 52 ∷ 52 ∷ 51 ∷ 4 ∷ 95 ∷ 116 ∷ 99 ∷ 112 ∷ 3 ∷ 119 ∷ 119 ∷ 119 ∷ 7 ∷ text "example") ++ (3 ∷ 99 ∷ 111 ∷ 109 ∷ 0 ∷ 46 ∷ 46 ∷ 46 ∷ []);
    })
    × (write_owner (service "mail.example.com" "25" "tcp") (replicate 27 46)
    ≡ record {
      answer = Ok 27;
      buffer = (3 ∷ 95 ∷ 50 ∷ 53 ∷ 4 ∷ 95 ∷ 116 ∷ 99 ∷ 112 ∷ 4 ∷ 109 ∷ 97 ∷ 105 ∷ 108 ∷ 7 ∷ text "example") ++ (3 ∷ 99 ∷ 111 ∷ 109 ∷ 0 ∷ []);
    })
    × (write_owner (service "mail.example.com" "25" "tcp") (replicate 26 46)
    ≡ record { answer = Err (NoRoom 27); buffer = replicate 26 46 })
    × (write_owner (service "mail.example.com" "025" "tcp") (replicate 2 46)
    ≡ record { answer = Err bad_service; buffer = 46 ∷ 46 ∷ [] })

-- Refusal 2 exactly when the service has no owner. Refusal 8, with the octets needed, exactly when it has one and the buffer is shorter. A
-- refusal leaves the buffer unchanged.
abbrev pub OwnerRefusals : Type 0
OwnerRefusals =
    (s : Service) (buffer : List ℕ) → Octets s.host →
    (((write_owner s buffer).answer ≡ Err bad_service) ↔ ((x : Name) → OwnerOf s x → ⊥))
    × ((n : ℕ) → ((write_owner s buffer).answer ≡ Err (NoRoom n))
    ↔ ((x : Name) × OwnerOf s x × (length (wire x) ≡ n) × (length buffer < n)))
    × ((r : Refusal) → (write_owner s buffer).answer ≡ Err r → (write_owner s buffer).buffer ≡ buffer)

-- If the buffer is long enough, the owner is at its start in wire form, its length is returned and the octets after it are unchanged.
abbrev pub OwnerPlaced : Type 0
OwnerPlaced =
    (s : Service) (buffer : List ℕ) (x : Name) → Octets s.host → OwnerOf s x → length (wire x) ≤ length buffer →
    write_owner s buffer ≡ record { answer = Ok (length (wire x)); buffer = wire x ++ drop (length (wire x)) buffer }

-- The TLSA records are those of type 52 and class 1, numbered from 0 over all records, where all data of that kind is well formed.
abbrev pub TlsaRecords : Type 0
TlsaRecords =
    (rs : List Record) → All (λ r. r.type ≡ 52 → r.class ≡ 1 → (a : Association) × Holds r.rdata a) rs →
    TlsaRecordsOf 0 rs (tlsa_records rs)

abbrev pub MatchByTheRule : Type 0
MatchByTheRule = (c : Presented) (x : Name) (rs : List TlsaRecord) → MatchOn c x rs (matching c (tlsa_at rs x))

-- An accepted book is matched by its TLSA records of the service's owner.
abbrev pub MatchAccepted : Type 0
MatchAccepted =
    (s : Service) (c : Presented) (book : List ℕ) (x : Name) → Octets s.host → OwnerOf s x → book_refusal book ≡ None →
    MatchOn c x (tlsa_records (records book)) (match_service s c book)

-- Each refusal is returned exactly when the table says so.
abbrev pub MatchRefusals : Type 0
MatchRefusals =
    (s : Service) (c : Presented) (book : List ℕ) → Octets s.host → Octets book → (r : Refusal) →
    (match_service s c book ≡ Refused r) ↔ FirstRow (MatchRow s book) r

-- The table MatchEdges.antt.
abbrev pub MatchEdges : Type 0
MatchEdges = map (λ e. e.answered) match_edges ≡ map (λ e. e.stated) match_edges
