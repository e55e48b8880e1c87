-- What the definitions of this crate mean. Each statement is proved under its name in proofs/.
use Rattle.std.specs.Prelude.{ℕ, ◌≤◌, ◌<◌, ◌≡◌, ◌↔◌, ◌≢◌, ◌⊎◌, true, false, List, [], ◌∷◌, map, length, None, Some}
use Rattle.spec_limits.specs.Limits.{max_request_octets, max_names}
use Rattle.spec_refusal.specs.Refusal.{number}
use Rattle.spec_refusal.specs.declared.Refusal.{Refusal}
use Rattle.spec_refusal.specs.declared.Refusal.TheVariants.{RequestTooLong, BadName, TooManyNames}
use Rattle.spec_octets.specs.Lists.{All, flatten}
use Rattle.spec_octets.specs.Octets.{Octets, text}
use Rattle.spec_octets.specs.Items.{BrokenAt, Beyond}
use Rattle.spec_octets.specs.Theorems.{Reads}
use Rattle.spec_name.specs.Names.{Label, Name, wire}
use Rattle.spec_request.specs.RequestEdges.{request_edges}
use Rattle.spec_request.specs.Request.{is_wildcard, base, requested_name, requested_names, request_refusal, GoodRequested}

-- A name is a wildcard with base X exactly when it is an asterisk label before X. Any other name, the root included, is its own base.
abbrev pub WildcardForm : Type 0
WildcardForm =
    ((x : Name) → (is_wildcard (text "*" ∷ x) ≡ true) × (base (text "*" ∷ x) ≡ x))
    × ((l : Label) (x : Name) → l ≢ text "*" → (is_wildcard (l ∷ x) ≡ false) × (base (l ∷ x) ≡ l ∷ x))
    × (is_wildcard [] ≡ false) × (base [] ≡ [])

abbrev pub RequestedNameIsItsLabels : Type 0
RequestedNameIsItsLabels = Reads requested_name wire GoodRequested

-- A request is accepted with the names ns exactly when its octets are the wire forms of ns, one after the other, with 1 to 250 valid names
-- and at most 16,384 octets.
abbrev pub RequestIsItsNames : Type 0
RequestIsItsNames =
    (s : List ℕ) → Octets s → (ns : List Name) →
    ((request_refusal s ≡ None) × (requested_names s ≡ ns))
    ↔ ((s ≡ flatten (map wire ns)) × All GoodRequested ns × (1 ≤ length ns) × (length ns ≤ max_names) × (length s ≤ max_request_octets))

-- The rows of the requirements' table, each with its condition and its place, stated without the reader.
abbrev pub Row1 : List ℕ → Type 0
Row1 s = max_request_octets < length s

abbrev pub Row2 : List ℕ → ℕ → Type 0
Row2 s k = ((s ≡ []) × (k ≡ 0)) ⊎ ((k < max_names) × BrokenAt wire GoodRequested s k)

abbrev pub Row3 : List ℕ → Type 0
Row3 s = Beyond wire GoodRequested max_names s

-- The same by refusal: the row of r holds of the request.
abbrev pub RequestRow : List ℕ → Refusal → Type 0
RequestRow s r =
    ((r ≡ RequestTooLong) × Row1 s) ⊎ ((k : ℕ) × (r ≡ BadName (record { 0 = k })) × Row2 s k) ⊎ ((r ≡ TooManyNames) × Row3 s)

-- Row 1 is checked first. Rows 2 and 3 never hold together.
abbrev pub RequestRefusals : Type 0
RequestRefusals =
    (s : List ℕ) → Octets s →
    ((request_refusal s ≡ Some RequestTooLong) ↔ Row1 s)
    × ((k : ℕ) → (request_refusal s ≡ Some (BadName (record { 0 = k }))) ↔ ((length s ≤ max_request_octets) × Row2 s k))
    × ((request_refusal s ≡ Some TooManyNames) ↔ ((length s ≤ max_request_octets) × Row3 s))
    × ((r : Refusal) → request_refusal s ≡ Some r → number r ≤ 3)

-- The table RequestEdges.antt.
abbrev pub RequestEdges : Type 0
RequestEdges = map (λ e. request_refusal e.0) request_edges ≡ map (λ e. e.1) request_edges
