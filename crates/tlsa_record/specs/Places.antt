-- Whether TLSA data is usable, and whether it matches; malformed data does neither.
use Rattle.std.specs.Prelude.{ℕ, Bool, false, List, Option, None, Some}
use Rattle.spec_tlsa.specs.Association.{Association, association}
use Rattle.spec_tlsa.specs.Matches.{Presented, is_usable, is_match}

abbrev pub presented : ℕ → List ℕ → List ℕ → Presented
presented usage certificate key = record { usage = usage; certificate = certificate; key = key }

abbrev pub usable_in : Option Association → Bool
usable_in None = false
usable_in (Some a) = is_usable a

unfoldable pub is_usable_data : List ℕ → Bool
is_usable_data d = usable_in (association d)

abbrev pub match_in : Presented → Option Association → Bool
match_in c None = false
match_in c (Some a) = is_match c a

unfoldable pub is_match_data : Presented → List ℕ → Bool
is_match_data c d = match_in c (association d)
