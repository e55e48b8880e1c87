-- Issuer domain names, each with whether the requirements accept it.
use Rattle.std.specs.Prelude.{ℕ, Bool, true, false, List, [], ◌∷◌, map, replicate}
use Prim.Native.Char.{code}
use Rattle.spec_octets.specs.Octets.{text}
use Rattle.spec_octets.specs.Pieces.{join}

-- Labels of these lengths, joined by dots.
abbrev pub of_lengths : List ℕ → List ℕ
of_lengths ns = join (code ".") (map (λ n. replicate n (code "a")) ns)

abbrev pub issuer_edges : List (List ℕ × Bool)
issuer_edges =
    -- Labels of letters, digits and inner hyphens, joined by single dots, without a trailing dot.
    (text "", false)
    ∷ (text "n", true)
    ∷ (text "ca1.example.net", true)
    ∷ (text "CA1.Example.NET", true)
    ∷ (text "a--b.0-9", true)
    ∷ (text "n.", false)
    ∷ (text ".n", false)
    ∷ (text ".", false)
    ∷ (text "n..n", false)
    ∷ (text "-n", false)
    ∷ (text "n-.n", false)
    ∷ (text "a_b", false)
    ∷ (text "*.n", false)
    -- No white space and no line end around the name.
    ∷ (text " n", false)
    ∷ (text "n\n", false)
    -- Labels of 63 and 64 octets, names of 253 and 254.
    ∷ (of_lengths (63 ∷ []), true)
    ∷ (of_lengths (64 ∷ []), false)
    ∷ (of_lengths (63 ∷ 63 ∷ 63 ∷ 61 ∷ []), true)
    ∷ (of_lengths (63 ∷ 63 ∷ 63 ∷ 62 ∷ []), false)
    ∷ []
