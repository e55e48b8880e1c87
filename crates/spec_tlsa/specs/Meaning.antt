-- Services, their owners and the match as statements, without the tests and the search. The theorems use these.
use Rattle.std.specs.Prelude.{ℕ, ◌≤◌, ◌≡◌, ◌≢◌, ◌⊎◌, ◌↔◌, List, [], ◌∷◌, map, length}
use Rattle.spec_limits.specs.Limits.{max_name_octets}
use Rattle.spec_refusal.specs.declared.Refusal.{Refusal}
use Rattle.spec_octets.specs.Lists.{All, Any, First}
use Rattle.spec_octets.specs.Octets.{text, lowered}
use Rattle.spec_octets.specs.Label.{HostLabel}
use Rattle.spec_octets.specs.WrittenDecimal.{decimal}
use Rattle.spec_name.specs.Names.{Name, wire, GoodName}
use Rattle.spec_record.specs.Records.{Record}
use Rattle.spec_record.specs.Kinds.{OfKind}
use Rattle.spec_record.specs.Theorems.{BookRow}
use Rattle.spec_tlsa.specs.declared.Matching.{Matching}
use Rattle.spec_tlsa.specs.declared.Matching.TheVariants.{Match, NoMatch, NothingUsable, Refused}
use Rattle.spec_tlsa.specs.Association.{Association, wire_association}
use Rattle.spec_tlsa.specs.Owners.{Service, max_port}
use Rattle.spec_tlsa.specs.Matches.{TlsaRecord, as_tlsa, Presented}
use Rattle.spec_tlsa.specs.Calls.{bad_service}

-- TLSA data holds this association: it is its wire form, with one octet of association data or more.
abbrev pub Holds : List ℕ → Association → Type 0
Holds d a = (d ≡ wire_association a) × (1 ≤ length a.octets)

-- ts are the TLSA records of rs, type 52 and class 1, in their order, each with its number. The first record of rs has the number k.
abbrev pub TlsaRecordsOf : ℕ → List Record → List TlsaRecord → Type 0
TlsaRecordsOf = OfKind 52 1 Holds as_tlsa

-- A valid host: a valid name that is not the root, each label 1 to 63 letters, digits and inner hyphens. So no label is an asterisk.
abbrev pub GoodHost : Name → Type 0
GoodHost h = GoodName h × (h ≢ []) × All HostLabel h

abbrev pub Transport : List ℕ → Type 0
Transport t = (t ≡ text "tcp") ⊎ (t ≡ text "udp") ⊎ (t ≡ text "sctp")

-- x is the owner of the TLSA records of s: 95, the underscore, before the port and before the transport, and then the host.
abbrev pub OwnerOf : Service → Name → Type 0
OwnerOf s x =
    (h : Name) × (n : ℕ) × (s.host ≡ wire h) × GoodHost h × (s.port ≡ decimal n) × (n ≤ max_port) × Transport s.transport
    × (x ≡ (95 ∷ decimal n) ∷ (95 ∷ s.transport) ∷ h) × (length (wire x) ≤ max_name_octets)

-- The owner of the record is x: the whole name, ignoring case.
abbrev pub OwnedBy : Name → TlsaRecord → Type 0
OwnedBy x r = map lowered r.owner ≡ map lowered x

-- "usages 0 to 3, selectors 0 and 1, and for now matching type 0"
abbrev pub Usable : Association → Type 0
Usable a = (a.usage ≤ 3) × (a.selector ≤ 1) × (a.matching ≡ 0)

-- The same usage, and the association data is the certificate with selector 0, or its key with selector 1.
abbrev pub Matches : Presented → Association → Type 0
Matches c a =
    Usable a × (a.usage ≡ c.usage)
    × (((a.selector ≡ 0) × (a.octets ≡ c.certificate)) ⊎ ((a.selector ≡ 1) × (a.octets ≡ c.key)))

-- The answer m for the owner x: the first record of that owner that matches; nothing usable if no record of that owner is usable; else no match.
abbrev pub MatchOn : Presented → Name → List TlsaRecord → Matching → Type 0
MatchOn c x rs m =
    ((k : ℕ) → (m ≡ Match (record { 0 = k }))
    ↔ ((r : TlsaRecord) × First (λ q. OwnedBy x q × Matches c q.association) rs r × (r.number ≡ k)))
    × ((m ≡ NoMatch)
    ↔ (Any (λ q. OwnedBy x q × Usable q.association) rs × All (λ q. OwnedBy x q × Matches c q.association → ⊥) rs))
    × ((m ≡ NothingUsable) ↔ All (λ q. OwnedBy x q × Usable q.association → ⊥) rs)
    × ((r : Refusal) → m ≢ Refused r)

-- The requirements' table: the row of r holds. Row 2 is that the service has no owner.
abbrev pub MatchRow : Service → List ℕ → Refusal → Type 0
MatchRow s book r = ((r ≡ bad_service) × ((x : Name) → OwnerOf s x → ⊥)) ⊎ BookRow book r
