-- A round-trip theorem doesn't fix a format: change reader and writer together, and it still holds. So each format is also spelled out by
-- an equation. Each is proved under its name in proofs/.
use Rattle.std.specs.Prelude.{ℕ, ◌≡◌, List, [], ◌∷◌}
use Rattle.spec_refusal.specs.declared.Refusal.{Refusal}
use Rattle.spec_refusal.specs.Refusal.{number, place}
use Rattle.spec_name.specs.Names.{Name}
use Rattle.spec_tlsa.specs.declared.Matching.TheVariants.{Match, NoMatch, NothingUsable, Refused}
use Rattle.spec_tlsa.specs.Association.{Association, wire_association}
use Rattle.spec_tlsa.specs.Owners.{max_port, prefixed}
use Rattle.spec_tlsa.specs.Calls.{bad_service, matching_code}

-- RFC 6698 section 2.1: usage, selector and matching type, one octet each, then the association data.
abbrev pub AssociationForm : Type 0
AssociationForm = (a : Association) → wire_association a ≡ a.usage ∷ a.selector ∷ a.matching ∷ a.octets

abbrev pub PortLimit : Type 0
PortLimit = max_port ≡ 65535

-- RFC 6698 section 3: 95, the underscore, before the port and before the transport.
abbrev pub PrefixForm : Type 0
PrefixForm = (p t : List ℕ) (x : Name) → prefixed p t x ≡ (95 ∷ p) ∷ (95 ∷ t) ∷ x

-- The numbers of the answers. A refused service has number 2 and place 0.
abbrev pub MatchCodes : Type 0
MatchCodes =
    ((k : ℕ) → matching_code (Match (record { 0 = k })) ≡ record { number = 60; values = k ∷ [] })
    × (matching_code NoMatch ≡ record { number = 61; values = [] })
    × (matching_code NothingUsable ≡ record { number = 62; values = [] })
    × ((r : Refusal) → matching_code (Refused r) ≡ record { number = number r; values = place r ∷ [] })
    × (matching_code (Refused bad_service) ≡ record { number = 2; values = 0 ∷ [] })
