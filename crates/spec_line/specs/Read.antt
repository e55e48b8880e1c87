-- Reading a line as CAA data (the requirements' "Read"): the presentation format of RFC 8659 section 4.1.1.
use Rattle.std.specs.Prelude.{ℕ, Bool, cond, not, ◌&&◌, ◌||◌, eqb, leb, length, Option, None, Some}
use Prim.Native.Char.{code}
use mathlib.Core.List.{List, [], ◌∷◌, map, drop_last}
use Rattle.spec_limits.specs.Limits.{max_tag_octets}
use Rattle.spec_octets.specs.Lists.{all, is_empty, ends}
use Rattle.spec_octets.specs.Octets.{between, is_digit, is_letter_or_digit, is_blank, trim_start}
use Rattle.spec_octets.specs.Reader.{if_read, Reader, given, ◌>>=◌, octet}
use Rattle.spec_octets.specs.Items.{Items, whole, broken, over, items}
use Rattle.spec_octets.specs.Decimal.{decimal_from, decimal_octet}
use Rattle.spec_record.specs.Property.{Property}
use Rattle.spec_line.specs.Written.{quote, backslash}

-- A written octet: what stands for one octet of a value in a line. It is the octet itself (plain), or an escape sequence of RFC 1035
-- section 5.1: \X, a backslash and a character (quoted), or \DDD, a backslash and three digits (numbered).
pub data WrittenOctet : Type 0 where
  plain : ℕ → WrittenOctet
  quoted : ℕ → WrittenOctet
  numbered : ℕ → ℕ → ℕ → WrittenOctet

abbrev pub value_of : WrittenOctet → ℕ
value_of (plain x) = x
value_of (quoted x) = x
value_of (numbered a b c) = decimal_from 0 (a ∷ b ∷ c ∷ [])

-- What follows the backslash: three digits up to 255, of which `a` is already read; or a non-digit 32 to 126.
abbrev pub three_more : ℕ → Reader WrittenOctet
three_more a = do
  b ← octet
  c ← octet
  given (is_digit b && is_digit c && leb (decimal_from 0 (a ∷ b ∷ c ∷ [])) 255) (numbered a b c)

abbrev pub escape : Reader WrittenOctet
escape = do
  x ← octet
  cond (is_digit x) (three_more x) (given (between 32 126 x) (quoted x))

-- One written octet, where the octets of `class` need no escape.
abbrev pub written_octet : (ℕ → Bool) → Reader WrittenOctet
written_octet class = do
  x ← octet
  cond (eqb x backslash) escape (given (class x) (plain x))

abbrev pub values : Items WrittenOctet → Option (List ℕ)
values (whole us) = Some (map value_of us)
values (broken k) = None
values over = None

-- The value of a sequence of written octets; none if s is not such a sequence.
unfoldable pub unescaped : (ℕ → Bool) → List ℕ → Option (List ℕ)
unescaped class s = values (items (written_octet class) (length s) s)

-- Octets that need no escape: in quotes 32 to 126 except quote and backslash; bare 33 to 126 except these, semicolon and parentheses.
unfoldable pub is_in_quotes : ℕ → Bool
is_in_quotes x = between 32 126 x && not (eqb x quote || eqb x backslash)

unfoldable pub is_bare : ℕ → Bool
is_bare x = between 33 126 x && not (eqb x quote || eqb x backslash || eqb x (code ";") || eqb x (code "(") || eqb x (code ")"))

-- A value between two quotes, which are its first and last octet; or a bare value, which is not empty.
unfoldable pub line_value : List ℕ → Option (List ℕ)
line_value [] = None
line_value (x ∷ s) =
    cond (eqb x quote) (cond (ends (eqb quote) s) (unescaped is_in_quotes (drop_last s)) None) (unescaped is_bare (x ∷ s))

-- A field up to the next white space, which is skipped.
abbrev pub extend_field : ℕ → Option (List ℕ × List ℕ) → Option (List ℕ × List ℕ)
extend_field x None = None
extend_field x (Some r) = Some (x ∷ r.0, r.1)

abbrev pub field : Reader (List ℕ)
field [] = None
field (x ∷ s) = cond (is_blank x) (λ r. Some ([], trim_start s)) (extend_field x) (field s)

-- 1 to 255 letters and digits.
unfoldable pub is_line_tag : List ℕ → Bool
is_line_tag t = not (is_empty t) && leb (length t) max_tag_octets && all is_letter_or_digit t

abbrev pub property_of : Option ℕ → List ℕ → Option (List ℕ) → Option Property
property_of None t v = None
property_of (Some f) t None = None
property_of (Some f) t (Some v) = cond (is_line_tag t) (Some (record { flags = f; tag = t; value = v })) None

-- Flags, white space, tag in the case of the line, white space, value.
unfoldable pub read_line : List ℕ → Option Property
read_line s = if_read None (field s) (λ f s₁. if_read None (field s₁) (λ t s₂. property_of (decimal_octet f) t (line_value s₂)))
