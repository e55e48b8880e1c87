-- The tables of lines and of calls on them, by computing.
use mathlib.Core.Path.{refl}
use Rattle.spec_limits.specs.Limits.{max_tag_octets, max_data_octets, max_line_octets}
use Rattle.spec_octets.specs.Octets.{is_digit, is_upper, is_lower, is_letter_or_digit, is_blank, lower}
use Rattle.spec_octets.specs.Decimal.{decimal_octet}
use Rattle.spec_octets.specs.WrittenDecimal.{decimal}
use Rattle.spec_record.specs.Property.{read_property, property}
use Rattle.spec_line.specs.Written.{escaped, line}
use Rattle.spec_line.specs.Calls.{placed, write_line, parse_line}
use Rattle.spec_line.specs.LineCalls.{LineCalls}
use Rattle.spec_line.specs.Read.{unescaped, is_in_quotes, is_bare, line_value, is_line_tag, read_line}
use Rattle.spec_line.specs.Theorems.{LineEdges}

pub line_edges_lem : LineEdges
unfolding max_tag_octets is_digit is_upper is_lower is_letter_or_digit is_blank decimal_octet unescaped is_in_quotes is_bare line_value is_line_tag read_line
line_edges_lem = refl

pub line_calls : LineCalls
unfolding max_tag_octets max_data_octets max_line_octets is_digit is_upper is_lower is_letter_or_digit is_blank lower decimal_octet decimal unescaped is_in_quotes
    is_bare line_value is_line_tag read_line escaped line placed write_line parse_line read_property property
line_calls = (refl, refl, refl, refl, refl, refl, refl, refl, refl, refl, refl, refl, refl, refl, refl, refl, refl, refl)
