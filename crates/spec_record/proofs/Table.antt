-- The table of books, and the example of records by kind, by computing.
use mathlib.Core.Path.{refl}
use Rattle.spec_limits.specs.Limits.{max_label_octets, max_name_octets, max_book_octets, max_records}
use Rattle.spec_octets.specs.Octets.{is_digit, is_upper, is_lower, is_letter_or_digit, lower, equal_ignoring_case}
use Rattle.spec_octets.specs.Reader.{number}
use Rattle.spec_name.specs.Names.{name}
use Rattle.spec_record.specs.Property.{read_property, property}
use Rattle.spec_record.specs.Records.{is_caa, is_alias, target, is_laid_out, resource_record, record_items, records, layout_refusal, clashes, conflict_refusal, book_refusal}
use Rattle.spec_record.specs.Theorems.{KindExample, BookEdges}

pub kind_example : KindExample
unfolding max_label_octets max_name_octets name read_property property target is_caa is_alias
kind_example = (refl, refl)

pub book_edges_lem : BookEdges
unfolding max_label_octets max_name_octets max_book_octets max_records is_digit is_upper is_lower is_letter_or_digit lower equal_ignoring_case number name read_property
    property target is_caa is_alias is_laid_out resource_record record_items records layout_refusal clashes conflict_refusal book_refusal
book_edges_lem = refl
