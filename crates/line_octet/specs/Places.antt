-- A written octet (spec_line's WrittenOctet), as offsets into the line: the same definitions for code that walks a slice.
use Rattle.line_octet.specs.declared.WrittenOctetAt.{WrittenOctetAt}
use Rattle.std.specs.Prelude.{ℕ, Bool, List, drop, Option, None, Some}
use Rattle.spec_octets.specs.Reader.{place_of}
use Rattle.spec_line.specs.Read.{WrittenOctet, value_of, escape, written_octet, is_in_quotes, is_bare}
use Rattle.line_octet.specs.declared.Style.{Style}
use Rattle.line_octet.specs.declared.Style.TheVariants.{Quoted, Bare}

-- The octets that need no escape.
abbrev pub plain_in : Style → ℕ → Bool
plain_in Quoted x = is_in_quotes x
plain_in Bare x = is_bare x

abbrev pub written_octet_places : List ℕ → Option (WrittenOctet × List ℕ) → Option WrittenOctetAt
written_octet_places s None = None
written_octet_places s (Some r) = Some (record { octet = value_of r.0; next = place_of s r.1 })

-- What follows a backslash, from offset `at` on; and the written octet that begins at offset `at`.
unfoldable pub escape_at : List ℕ → ℕ → Option WrittenOctetAt
escape_at s at = written_octet_places s (escape (drop at s))

unfoldable pub written_octet_at : Style → List ℕ → ℕ → Option WrittenOctetAt
written_octet_at style s at = written_octet_places s (written_octet (plain_in style) (drop at s))
