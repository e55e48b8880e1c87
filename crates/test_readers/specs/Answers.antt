-- The packed answer of the reader with this number. Reader 1 compares s and t; 2, 3 and 6 read s from offset `at` on; the others read s.
use Rattle.std.specs.Prelude.{ℕ, cond, List, eqb}
use Rattle.spec_octets.specs.Octets.{equal_ignoring_case}
use Rattle.read_name.specs.Places.{name_end}
use Rattle.read_request.specs.Places.{requested_at}
use Rattle.spec_record.specs.Property.{tag_of}
use Rattle.read_property.specs.Places.{property_at}
use Rattle.read_record.specs.Places.{record_at}
use Rattle.read_value.specs.Places.{value_at}
use Rattle.test_readers.specs.Packs.{packed_bool, packed_end, packed_requested, packed_property, packed_tag, packed_record, packed_value}

unfoldable pub reader_answer : ℕ → List ℕ → List ℕ → ℕ → ℕ
reader_answer number s t at =
    cond (eqb number 1) (packed_bool (equal_ignoring_case s t))
    (cond (eqb number 2) (packed_end (name_end s at))
    (cond (eqb number 3) (packed_requested (requested_at s at))
    (cond (eqb number 4) (packed_property (property_at s))
    (cond (eqb number 5) (packed_tag (tag_of s))
    (cond (eqb number 6) (packed_record (record_at s at))
    (packed_value (value_at s)))))))
