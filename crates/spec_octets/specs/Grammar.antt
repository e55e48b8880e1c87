-- The operators of ABNF (RFC 5234), so that a grammar can be stated as its productions. A production says which texts it matches.
use Rattle.std.specs.Prelude.{ℕ, ◌≡◌, ◌⊎◌, Bool, true, List, [], ◌∷◌, ◌++◌}
use Rattle.spec_octets.specs.Octets.{is_letter_or_digit, hyphen}

infixr 45 ◌⊕◌
abbrev pub Production : Type 1
Production = List ℕ → Type 0

-- One octet of a class; and one given octet.
abbrev pub one : (ℕ → Bool) → Production
one p s = (x : ℕ) × (s ≡ x ∷ []) × (p x ≡ true)

abbrev pub lit : ℕ → Production
lit c s = s ≡ c ∷ []

-- Concatenation, p then q; and RFC 5234's [p], p or nothing.
abbrev pub ◌⊕◌ : Production → Production → Production
◌⊕◌ p q s = (a b : List ℕ) × (s ≡ a ++ b) × p a × q b

abbrev pub optional : Production → Production
optional p s = (s ≡ []) ⊎ p s

-- Repetition, RFC 5234's *p: p any number of times, also none.
pub data many (p : Production) : List ℕ → Type 0 where
  many_none : many p []
  many_more : {s : List ℕ} (a b : List ℕ) → s ≡ a ++ b → p a → many p b → many p s

-- RFC 8659 section 4.2: label = (ALPHA / DIGIT) *( *("-") (ALPHA / DIGIT))
abbrev pub label : Production
label = one is_letter_or_digit ⊕ many (many (lit hyphen) ⊕ one is_letter_or_digit)
