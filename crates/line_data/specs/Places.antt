-- What the code of this crate computes: the octets that a sequence of written octets stands for, and CAA data from its parts.
use Rattle.std.specs.Prelude.{ℕ, Bool, cond, List, [], ◌∷◌, leb, length, Option, None, Some}
use Rattle.spec_limits.specs.Limits.{max_tag_octets}
use Rattle.spec_record.specs.Property.{Property, wire_property}
use Rattle.spec_record.specs.Records.{is_some}
use Rattle.spec_line.specs.Read.{unescaped}
use Rattle.spec_line.specs.Calls.{Output, read_of}
use Rattle.line_octet.specs.declared.Style.{Style}
use Rattle.line_octet.specs.Places.{plain_in}

-- The value that s stands for, as a sequence of written octets: its length, whether it has one, and the value itself.
abbrev pub count_read : Option (List ℕ) → Option ℕ
count_read None = None
count_read (Some v) = Some (length v)

unfoldable pub unescaped_count : Style → List ℕ → Option ℕ
unescaped_count style s = count_read (unescaped (plain_in style) s)

abbrev pub is_escaped_text : Style → List ℕ → Bool
is_escaped_text style s = is_some (unescaped (plain_in style) s)

abbrev pub octets_in : Option (List ℕ) → List ℕ
octets_in None = []
octets_in (Some v) = v

abbrev pub unescaped_octets : Style → List ℕ → List ℕ
unescaped_octets style s = octets_in (unescaped (plain_in style) s)

-- CAA data from flags, tag and value: without the value, and whole.
abbrev pub data_head : ℕ → List ℕ → List ℕ
data_head f t = f ∷ length t ∷ t

abbrev pub data_of : ℕ → List ℕ → List ℕ → List ℕ
data_of f t v = wire_property (record { flags = f; tag = t; value = v })

-- Writes the data to the buffer. Refusal 9 if s is not a sequence of written octets, or if the tag is too long for its length octet.
abbrev pub tagged_property : ℕ → List ℕ → Option (List ℕ) → Option Property
tagged_property f t None = None
tagged_property f t (Some v) = cond (leb (length t) max_tag_octets) (Some (record { flags = f; tag = t; value = v })) None

unfoldable pub write_data : ℕ → List ℕ → Style → List ℕ → List ℕ → Output
write_data f t style s buffer = read_of (tagged_property f t (unescaped (plain_in style) s)) buffer
