-- Issuer domain names as text, such as ca1.example.net (the requirements' "issuer name"): labels joined by dots, no trailing dot.
use Rattle.std.specs.Prelude.{ℕ, ◌≤◌, Bool, cond, ◌&&◌, List, [], length, ◌≡◌, ◌≢◌, Option, None, Some}
use Prim.Native.Char.{code}
use Rattle.spec_limits.specs.Limits.{max_issuer_octets}
use Rattle.spec_refusal.specs.declared.Refusal.{Refusal}
use Rattle.spec_refusal.specs.declared.Refusal.TheVariants.{BadIssuer}
use Rattle.spec_octets.specs.Lists.{all, All}
use Rattle.spec_octets.specs.Octets.{between}
use Rattle.spec_octets.specs.Label.{is_host_label, HostLabel}
use Rattle.spec_octets.specs.Pieces.{split, join}

unfoldable pub is_issuer : List ℕ → Bool
is_issuer d = between 1 max_issuer_octets (length d) && all is_host_label (split (code ".") d)

-- Row 4 of the requirements' table of refusals.
unfoldable pub issuer_refusal : List ℕ → Option Refusal
issuer_refusal d = cond (is_issuer d) None (Some BadIssuer)

-- One or more valid labels joined by single dots, 1 to 253 octets.
abbrev pub WellFormed : List ℕ → Type 0
WellFormed d =
    (1 ≤ length d) × (length d ≤ max_issuer_octets)
    × ((ls : List (List ℕ)) × (d ≡ join (code ".") ls) × (ls ≢ []) × All HostLabel ls)
