-- Which lines stand for which data: what the requirements say under "Read", as productions.
use Rattle.std.specs.Prelude.{ℕ, ◌≤◌, ◌<◌, ◌≡◌, ◌⊎◌, ◌≢◌, Bool, true, false, List, [], ◌∷◌, ◌++◌, map, length}
use Rattle.spec_limits.specs.Limits.{max_tag_octets}
use Rattle.spec_octets.specs.Lists.{All, flatten}
use Rattle.spec_octets.specs.Octets.{Octets, is_digit, is_letter_or_digit, is_blank}
use Rattle.spec_octets.specs.Decimal.{decimal_from}
use Rattle.spec_octets.specs.Grammar.{Production, one, many, ◌⊕◌}
use Rattle.spec_record.specs.Property.{Property}
use Rattle.spec_line.specs.Written.{quote, backslash}
use Rattle.spec_line.specs.Read.{WrittenOctet, plain, quoted, numbered, value_of, is_in_quotes, is_bare}

-- 1*WSP: one or more octets of white space (space or tab).
abbrev pub some_blanks : Production
some_blanks = one is_blank ⊕ many (one is_blank)

-- 1 to 3 digits with the value n, at most 255.
abbrev pub OctetField : ℕ → List ℕ → Type 0
OctetField n s = (1 ≤ length s) × (length s ≤ 3) × All (λ x. is_digit x ≡ true) s × (decimal_from 0 s ≡ n) × (n ≤ 255)

-- 1 to 255 letters and digits.
abbrev pub TagField : List ℕ → Type 0
TagField s = (1 ≤ length s) × (length s ≤ max_tag_octets) × All (λ x. is_letter_or_digit x ≡ true) s

-- How a written octet is spelled; and which are valid, where the octets of `class` need no escape.
abbrev pub as_written : WrittenOctet → List ℕ
as_written (plain x) = x ∷ []
as_written (quoted x) = backslash ∷ x ∷ []
as_written (numbered a b c) = backslash ∷ a ∷ b ∷ c ∷ []

abbrev pub GoodWrittenOctet : (ℕ → Bool) → WrittenOctet → Type 0
GoodWrittenOctet class (plain x) = (class x ≡ true) × (x ≢ backslash)
GoodWrittenOctet class (quoted x) = (32 ≤ x) × (x ≤ 126) × (is_digit x ≡ false)
GoodWrittenOctet class (numbered a b c) =
    (is_digit a ≡ true) × (is_digit b ≡ true) × (is_digit c ≡ true) × (decimal_from 0 (a ∷ b ∷ c ∷ []) ≤ 255)

-- s is a sequence of written octets for the value v.
abbrev pub WrittenFor : (ℕ → Bool) → List ℕ → List ℕ → Type 0
WrittenFor class v s = (us : List WrittenOctet) × (s ≡ flatten (map as_written us)) × All (GoodWrittenOctet class) us × (map value_of us ≡ v)

-- A value in quotes, or a bare one that is not empty.
abbrev pub ValueField : List ℕ → List ℕ → Type 0
ValueField v s =
    ((c : List ℕ) × (s ≡ quote ∷ (c ++ (quote ∷ []))) × WrittenFor is_in_quotes v c) ⊎ ((s ≢ []) × WrittenFor is_bare v s)

-- The line s stands for the property p. Nothing precedes the flags, and nothing follows the value.
abbrev pub LineOf : Property → Production
LineOf p = OctetField p.flags ⊕ some_blanks ⊕ (λ s. (s ≡ p.tag) × TagField s) ⊕ some_blanks ⊕ ValueField p.value

-- Data that has a line: the tag is 1 to 255 letters and digits, and all parts are octets.
abbrev pub HasLine : Property → Type 0
HasLine p = (p.flags < 256) × TagField p.tag × Octets p.value
