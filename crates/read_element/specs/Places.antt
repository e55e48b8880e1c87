-- The same definitions over offsets, for code that walks a slice: `element_at s at` is about the octets of `s` from offset `at` on.
use Rattle.read_element.specs.declared.ElementAt.{ElementAt}
use Rattle.read_element.specs.declared.LengthAt.{LengthAt}
use Rattle.std.specs.Prelude.{ℕ, ◌-◌, List, length, drop, Option, None, Some}
use Rattle.spec_octets.specs.Reader.{place_of}
use Rattle.spec_der.specs.Elements.{Element, element_length, element, tagged}

-- The length octets end where the remaining octets begin.
abbrev pub length_places : List ℕ → Option (ℕ × List ℕ) → Option LengthAt
length_places s None = None
length_places s (Some r) = Some (record { value = r.0; next = place_of s r.1 })

-- The length octets that begin at offset `at`.
unfoldable pub length_at : List ℕ → ℕ → Option LengthAt
length_at s at = length_places s (element_length (drop at s))

-- An element ends where the remaining octets begin, and so do its contents.
abbrev pub element_places : List ℕ → Option (Element × List ℕ) → Option ElementAt
element_places s None = None
element_places s (Some r) =
    Some (record { tag = r.0.tag; contents = place_of s r.1 - length r.0.contents; next = place_of s r.1 })

-- The element that begins at offset `at`; and one with this tag.
unfoldable pub element_at : List ℕ → ℕ → Option ElementAt
element_at s at = element_places s (element (drop at s))

unfoldable pub tagged_at : ℕ → List ℕ → ℕ → Option ElementAt
tagged_at t s at = element_places s (tagged t (drop at s))
