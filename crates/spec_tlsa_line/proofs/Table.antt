-- The tables of TLSA lines and of calls on them, by computing.
use mathlib.Core.Path.{refl}
use Rattle.spec_limits.specs.Limits.{max_data_octets, max_line_octets}
use Rattle.spec_octets.specs.Octets.{is_digit, is_upper, is_blank}
use Rattle.spec_octets.specs.Decimal.{decimal_octet}
use Rattle.spec_octets.specs.WrittenDecimal.{decimal}
use Rattle.spec_line.specs.Calls.{placed}
use Rattle.spec_tlsa.specs.Association.{read_association, association}
use Rattle.spec_tlsa_line.specs.Hex.{hex_text, is_hex_digit, hex_value, is_hex_text, hex_octets}
use Rattle.spec_tlsa_line.specs.Lines.{tlsa_line, read_tlsa_line}
use Rattle.spec_tlsa_line.specs.Calls.{write_tlsa_line, parse_tlsa_line}
use Rattle.spec_tlsa_line.specs.LineCalls.{TlsaLineCalls}
use Rattle.spec_tlsa_line.specs.Theorems.{TlsaLineEdges}

pub tlsa_line_edges : TlsaLineEdges
unfolding is_digit is_upper is_blank decimal_octet is_hex_digit hex_value is_hex_text hex_octets read_tlsa_line
tlsa_line_edges = refl

pub tlsa_line_calls : TlsaLineCalls
unfolding max_data_octets max_line_octets is_digit is_upper is_blank decimal_octet decimal read_association association hex_text is_hex_digit hex_value is_hex_text
    hex_octets tlsa_line read_tlsa_line placed write_tlsa_line parse_tlsa_line
tlsa_line_calls = (refl, refl, refl, refl, refl, refl, refl, refl, refl, refl, refl, refl, refl, refl, refl, refl, refl)
