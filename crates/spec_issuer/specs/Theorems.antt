-- What the definitions of this crate mean. Each statement is proved under its name in proofs/.
use Rattle.std.specs.Prelude.{ℕ, ◌≡◌, ◌↔◌, true, List, map, None, Some}
use Rattle.spec_refusal.specs.declared.Refusal.{Refusal}
use Rattle.spec_refusal.specs.declared.Refusal.TheVariants.{BadIssuer}
use Rattle.spec_octets.specs.Octets.{lowered}
use Rattle.spec_issuer.specs.IssuerEdges.{issuer_edges}
use Rattle.spec_issuer.specs.Issuer.{is_issuer, issuer_refusal, WellFormed}

abbrev pub IssuerIsItsLabels : Type 0
IssuerIsItsLabels = (d : List ℕ) → (is_issuer d ≡ true) ↔ WellFormed d

-- Whether a name is well formed doesn't depend on letter case.
abbrev pub IssuerInAnyCase : Type 0
IssuerInAnyCase = (d : List ℕ) → is_issuer (lowered d) ≡ is_issuer d

-- Row 4 of the requirements' table.
abbrev pub Row4 : List ℕ → Type 0
Row4 d = WellFormed d → ⊥

-- The same by refusal.
abbrev pub IssuerRow : List ℕ → Refusal → Type 0
IssuerRow d r = (r ≡ BadIssuer) × Row4 d

abbrev pub IssuerRefusals : Type 0
IssuerRefusals =
    (d : List ℕ) → ((issuer_refusal d ≡ Some BadIssuer) ↔ Row4 d) × ((issuer_refusal d ≡ None) ↔ WellFormed d)
    × ((r : Refusal) → issuer_refusal d ≡ Some r → r ≡ BadIssuer)

-- The table IssuerEdges.antt.
abbrev pub IssuerEdges : Type 0
IssuerEdges = map (λ e. is_issuer e.0) issuer_edges ≡ map (λ e. e.1) issuer_edges
