-- A field of a line, as offsets into the line.
use Rattle.line_fields.specs.declared.FieldAt.{FieldAt}
use Rattle.std.specs.Prelude.{ℕ, ◌+◌, cond, List, [], ◌∷◌, length, drop, Option, None, Some}
use Rattle.spec_octets.specs.Octets.{is_blank}
use Rattle.spec_octets.specs.Reader.{place_of}
use Rattle.spec_line.specs.Read.{field}

-- The octets before the first white space.
abbrev pub unblanks : List ℕ → List ℕ
unblanks [] = []
unblanks (x ∷ s) = cond (is_blank x) [] (x ∷ unblanks s)

-- The offset of the first white space from offset `at` on; the end of s if there is none.
unfoldable pub field_end : List ℕ → ℕ → ℕ
field_end s at = at + length (unblanks (drop at s))

-- The field that begins at offset `at`: where it ends, and where the next field begins.
abbrev pub field_places : List ℕ → ℕ → Option (List ℕ × List ℕ) → Option FieldAt
field_places s at None = None
field_places s at (Some r) = Some (record { end = at + length r.0; next = place_of s r.1 })

unfoldable pub field_at : List ℕ → ℕ → Option FieldAt
field_at s at = field_places s at (field (drop at s))
