-- Octets, their classes (RFC 5234 appendix B.1), letter case and comparison.
use Rattle.std.specs.Prelude.{ℕ, ◌+◌, ◌<◌, Bool, true, false, cond, not, ◌&&◌, ◌||◌, List, [], ◌∷◌, map, leb, eqb}
use Prim.Native.Char.{code}
use Prim.Native.String.{String}
use Rattle.spec_octets.specs.Lists.{All}

-- Every number of the list is an octet: it is below 256.
abbrev pub Octets : List ℕ → Type 0
Octets s = All (λ x. x < 256) s

-- The octets of an ASCII text.
abbrev pub text : String → List ℕ
text String.[] = []
text (String.◌∷◌ c s) = code c ∷ text s

abbrev pub between : ℕ → ℕ → ℕ → Bool
between low high x = leb low x && leb x high

unfoldable pub is_digit : ℕ → Bool
is_digit x = between (code "0") (code "9") x

unfoldable pub is_upper : ℕ → Bool
is_upper x = between (code "A") (code "Z") x

unfoldable pub is_lower : ℕ → Bool
is_lower x = between (code "a") (code "z") x

unfoldable pub is_letter_or_digit : ℕ → Bool
is_letter_or_digit x = is_upper x || is_lower x || is_digit x

abbrev pub hyphen : ℕ
hyphen = code "-"

-- White space: WSP of RFC 5234, space or tab (the requirements' "blank").
unfoldable pub is_blank : ℕ → Bool
is_blank x = eqb x (code " ") || eqb x (code "\t")

-- Removes leading white space.
abbrev pub trim_start : List ℕ → List ℕ
trim_start [] = []
trim_start (x ∷ s) = cond (is_blank x) (trim_start s) (x ∷ s)

-- Removes trailing white space.
abbrev pub unless_last_blank : ℕ → List ℕ → List ℕ
unless_last_blank x [] = cond (is_blank x) [] (x ∷ [])
unless_last_blank x (y ∷ s) = x ∷ y ∷ s

abbrev pub trim_end : List ℕ → List ℕ
trim_end [] = []
trim_end (x ∷ s) = unless_last_blank x (trim_end s)

-- RFC 8659 section 4.2: the octets of a parameter's value, 33 to 126 except the semicolon.
unfoldable pub is_parameter_octet : ℕ → Bool
is_parameter_octet x = between 33 126 x && not (eqb x (code ";"))

-- Lower case of one octet: "A to Z counting as a to z". Every other octet is unchanged.
unfoldable pub lower : ℕ → ℕ
lower x = cond (is_upper x) (x + 32) x

-- A text in lower case.
abbrev pub lowered : List ℕ → List ℕ
lowered s = map lower s

-- Equality octet for octet; texts of different lengths differ.
abbrev pub same : List ℕ → List ℕ → Bool
same [] [] = true
same [] (y ∷ ys) = false
same (x ∷ xs) [] = false
same (x ∷ xs) (y ∷ ys) = eqb x y && same xs ys

-- "Names are equal when whole and equal octet for octet, A to Z counting as a to z". So are tags (RFC 8659 section 4.1).
unfoldable pub equal_ignoring_case : List ℕ → List ℕ → Bool
equal_ignoring_case a b = same (lowered a) (lowered b)
