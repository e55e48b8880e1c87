-- The productions of RFC 8659 section 4.2, each after those that it uses. `label` stands in spec_octets.
use Rattle.std.specs.Prelude.{ℕ, ◌≡◌, List, [], ◌∷◌, ◌++◌}
use Prim.Native.Char.{code}
use Rattle.spec_octets.specs.Octets.{is_blank, is_parameter_octet}
use Rattle.spec_octets.specs.Grammar.{Production, one, lit, ◌⊕◌, optional, many, label}
use Rattle.spec_value.specs.Parameters.{Parameter}

-- *WSP
abbrev pub blanks : Production
blanks = many (one is_blank)

-- issuer-domain-name = label *("." label)
abbrev pub issuer_domain_name : Production
issuer_domain_name = label ⊕ many (lit (code ".") ⊕ label)

-- tag = (ALPHA / DIGIT) *( *("-") (ALPHA / DIGIT)), as `label`
abbrev pub tag : Production
tag = label

-- value = *(%x21-3A / %x3C-7E)
abbrev pub value : Production
value = many (one is_parameter_octet)

-- parameter = tag *WSP "=" *WSP value
abbrev pub parameter : Production
parameter = tag ⊕ blanks ⊕ lit (code "=") ⊕ blanks ⊕ value

-- parameters = (parameter *WSP ";" *WSP parameters) / parameter
pub data parameters : List ℕ → Type 0 where
  more : {s : List ℕ} (a b : List ℕ) → s ≡ a ++ b → (parameter ⊕ blanks ⊕ lit (code ";") ⊕ blanks) a → parameters b → parameters s
  last : {s : List ℕ} → parameter s → parameters s

-- [";" *WSP [parameters *WSP]]
abbrev pub parameter_part : Production
parameter_part = optional (lit (code ";") ⊕ blanks ⊕ optional (parameters ⊕ blanks))

-- issue-value = *WSP [issuer-domain-name *WSP] [";" *WSP [parameters *WSP]], without a name, and with the name n
abbrev pub value_without_name : Production
value_without_name = blanks ⊕ parameter_part

abbrev pub value_with_name : List ℕ → Production
value_with_name n = blanks ⊕ (λ s. (s ≡ n) × issuer_domain_name s) ⊕ blanks ⊕ parameter_part

-- The same productions, with what they match named: the name n and the parameters ps.

-- A production, and which text it matches.
abbrev pub exactly : List ℕ → Production → Production
exactly t p s = (s ≡ t) × p s

-- parameter, with its tag and its value
abbrev pub parameter_of : Parameter → Production
parameter_of p = exactly p.tag tag ⊕ blanks ⊕ lit (code "=") ⊕ blanks ⊕ exactly p.value value

-- parameters, with each of them
abbrev pub parameters_of : List Parameter → Production
parameters_of [] s = ⊥
parameters_of (p ∷ []) s = parameter_of p s
parameters_of (p ∷ q ∷ ps) s = (parameter_of p ⊕ blanks ⊕ lit (code ";") ⊕ blanks ⊕ parameters_of (q ∷ ps)) s

-- [";" *WSP [parameters *WSP]], without parameters, and with them
abbrev pub parameter_part_of : List Parameter → Production
parameter_part_of [] = optional (lit (code ";") ⊕ blanks)
parameter_part_of (p ∷ ps) = lit (code ";") ⊕ blanks ⊕ parameters_of (p ∷ ps) ⊕ blanks

-- issue-value, with the name n and the parameters ps
abbrev pub value_of : List ℕ → List Parameter → Production
value_of n ps = blanks ⊕ exactly n issuer_domain_name ⊕ blanks ⊕ parameter_part_of ps
