-- TLSA data as a line of text, written and read: three numbers and hexadecimal digits (RFC 6698 section 2.2). Number fields and white space are
-- those of a CAA line.
use Rattle.std.specs.Prelude.{ℕ, List, [], ◌∷◌, ◌++◌, Option, None, Some}
use Rattle.spec_octets.specs.Decimal.{decimal_octet}
use Rattle.spec_octets.specs.WrittenDecimal.{decimal}
use Rattle.spec_octets.specs.Reader.{if_read}
use Rattle.spec_line.specs.Written.{space}
use Rattle.spec_line.specs.Read.{field}
use Rattle.spec_tlsa.specs.Association.{Association}
use Rattle.spec_tlsa_line.specs.Hex.{hex_text, hex_octets}

-- Usage, space, selector, space, matching type, space, association data.
unfoldable pub tlsa_line : Association → List ℕ
tlsa_line a =
    decimal a.usage ++ (space ∷ []) ++ decimal a.selector ++ (space ∷ []) ++ decimal a.matching ++ (space ∷ [])
    ++ hex_text a.octets

abbrev pub association_of : Option ℕ → Option ℕ → Option ℕ → Option (List ℕ) → Option Association
association_of None s m d = None
association_of (Some u) None m d = None
association_of (Some u) (Some s) None d = None
association_of (Some u) (Some s) (Some m) None = None
association_of (Some u) (Some s) (Some m) (Some d) = Some (record { usage = u; selector = s; matching = m; octets = d })

-- Each number field ends at white space, which is skipped. The digits are what is left.
unfoldable pub read_tlsa_line : List ℕ → Option Association
read_tlsa_line s =
    if_read None (field s) (λ u s₁.
    if_read None (field s₁) (λ e s₂.
    if_read None (field s₂) (λ m s₃. association_of (decimal_octet u) (decimal_octet e) (decimal_octet m) (hex_octets s₃))))
