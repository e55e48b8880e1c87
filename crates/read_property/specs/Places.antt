-- The property of CAA data as the code returns it: its flags and the offset of its value, and tag and value as slices.
use Rattle.read_property.specs.declared.PropertyAt.{PropertyAt}
use Rattle.std.specs.Prelude.{ℕ, ◌+◌, List, [], length, Option, None, Some}
use Rattle.spec_record.specs.Property.{Property, property}

-- The tag begins at offset 2, after flags and tag length, and the value follows it.
abbrev pub property_places : Option Property → Option PropertyAt
property_places None = None
property_places (Some p) = Some (record { flags = p.flags; value = 2 + length p.tag })

unfoldable pub property_at : List ℕ → Option PropertyAt
property_at d = property_places (property d)

abbrev pub tag_in : Option Property → List ℕ
tag_in None = []
tag_in (Some p) = p.tag

unfoldable pub tag_part : List ℕ → List ℕ
tag_part d = tag_in (property d)

abbrev pub value_in : Option Property → List ℕ
value_in None = []
value_in (Some p) = p.value

unfoldable pub value_part : List ℕ → List ℕ
value_part d = value_in (property d)
