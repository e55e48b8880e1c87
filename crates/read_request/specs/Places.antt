-- The same definitions over offsets, for code that walks a slice: `requested_at s at` is about the octets of `s` from offset `at` on.
use Rattle.read_request.specs.declared.Requested.{Requested}
use Rattle.std.specs.Prelude.{ℕ, ◌-◌, List, length, drop, Option, None, Some}
use Rattle.spec_octets.specs.Reader.{place_of}
use Rattle.spec_name.specs.Names.{Name, wire}
use Rattle.spec_request.specs.Request.{is_wildcard, base, requested_name}

-- The name ends where the remaining octets begin, and its X ends there too.
abbrev pub places_of : List ℕ → Option (Name × List ℕ) → Option Requested
places_of s None = None
places_of s (Some r) =
    Some (record { wildcard = is_wildcard r.0; base = place_of s r.1 - length (wire (base r.0)); next = place_of s r.1 })

-- The requested name that begins at offset `at`.
unfoldable pub requested_at : List ℕ → ℕ → Option Requested
requested_at s at = places_of s (requested_name (drop at s))
