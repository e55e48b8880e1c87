-- The parts of a line, as offsets into it.
use Rattle.line_parts.specs.declared.LineAt.{LineAt}
use Rattle.line_parts.specs.declared.LineValueAt.{LineValueAt}
use Rattle.std.specs.Prelude.{ℕ, suc, ◌+◌, cond, List, [], ◌∷◌, eqb, length, Option, None, Some}
use Rattle.spec_octets.specs.Lists.{ends}
use Rattle.spec_octets.specs.Decimal.{decimal_octet}
use Rattle.spec_octets.specs.Reader.{if_read, place_of}
use Rattle.spec_line.specs.Written.{quote}
use Rattle.spec_line.specs.Read.{field, is_line_tag}
use Rattle.line_octet.specs.declared.Style.TheVariants.{Quoted, Bare}

-- The fields of a line: its flags, and the offsets of tag and value.
abbrev pub line_places : List ℕ → Option ℕ → List ℕ → List ℕ → List ℕ → Option LineAt
line_places s None s₁ t s₂ = None
line_places s (Some f) s₁ t s₂ =
    cond (is_line_tag t) (Some (record { flags = f; tag = place_of s s₁; end = place_of s s₁ + length t; value = place_of s s₂ })) None

unfoldable pub line_at : List ℕ → Option LineAt
line_at s = if_read None (field s) (λ f s₁. if_read None (field s₁) (λ t s₂. line_places s (decimal_octet f) s₁ t s₂))

-- The offsets in a value of its written octets: without the quotes, or the whole bare value.
unfoldable pub line_value_at : List ℕ → Option LineValueAt
line_value_at [] = None
line_value_at (x ∷ v) =
    cond (eqb x quote) (cond (ends (eqb quote) v) (Some (record { from = 1; end = length v; style = Quoted })) None)
    (Some (record { from = 0; end = suc (length v); style = Bare }))
