-- Requests as octets, each with the refusal that the requirements state, or none.
use Rattle.std.specs.Prelude.{ℕ, List, [], ◌∷◌, ◌++◌, replicate, Option, None, Some}
use Prim.Native.Char.{code}
use Rattle.spec_refusal.specs.declared.Refusal.{Refusal}
use Rattle.spec_refusal.specs.declared.Refusal.TheVariants.{RequestTooLong, BadName, TooManyNames}
use Rattle.spec_octets.specs.Lists.{flatten}
use Rattle.spec_octets.specs.Octets.{text}

abbrev pub bad_name : ℕ → Option Refusal
bad_name k = Some (BadName (record { 0 = k }))

-- One label of n letters; and n names `a`.
abbrev pub letters : ℕ → List ℕ
letters n = n ∷ replicate n (code "a")

abbrev pub names : ℕ → List ℕ
names n = flatten (replicate n (1 ∷ 97 ∷ 0 ∷ []))

-- n names of 255 octets each, and then a name of one label of k letters.
abbrev pub long_names : ℕ → ℕ → List ℕ
long_names n k = flatten (replicate n (letters 63 ++ letters 63 ++ letters 63 ++ letters 61 ++ (0 ∷ []))) ++ letters k ++ (0 ∷ [])

abbrev pub request_edges : List (List ℕ × Option Refusal)
request_edges =
    -- An empty request; the root; an asterisk alone, before a label, after one, twice in a label, and as two labels.
    ([], bad_name 0)
    ∷ (0 ∷ [], bad_name 0)
    ∷ (1 ∷ 42 ∷ 0 ∷ [], bad_name 0)
    ∷ (1 ∷ 42 ∷ 1 ∷ 97 ∷ 0 ∷ [], None)
    ∷ (1 ∷ 97 ∷ 1 ∷ 42 ∷ 0 ∷ [], bad_name 0)
    ∷ (2 ∷ 42 ∷ 42 ∷ 1 ∷ 97 ∷ 0 ∷ [], bad_name 0)
    ∷ (1 ∷ 42 ∷ 1 ∷ 42 ∷ 1 ∷ 97 ∷ 0 ∷ [], bad_name 0)
    -- Letters, digits and inner hyphens.
    ∷ ((3 ∷ text "aZ9") ++ (4 ∷ text "a--b") ++ (0 ∷ []), None)
    ∷ ((2 ∷ text "-a") ++ (0 ∷ []), bad_name 0)
    ∷ ((2 ∷ text "a-") ++ (0 ∷ []), bad_name 0)
    ∷ ((3 ∷ text "a_b") ++ (0 ∷ []), bad_name 0)
    ∷ (3 ∷ 97 ∷ 13 ∷ 98 ∷ 0 ∷ [], bad_name 0)
    ∷ (3 ∷ 97 ∷ 46 ∷ 98 ∷ 0 ∷ [], bad_name 0)
    -- The number of the malformed name; the same name twice; a name that is cut off.
    ∷ (names 2, None)
    ∷ (names 2 ++ ((2 ∷ text "-a") ++ (0 ∷ [])), bad_name 2)
    ∷ (names 1 ++ (0 ∷ []), bad_name 1)
    ∷ (1 ∷ 97 ∷ [], bad_name 0)
    ∷ (2 ∷ 97 ∷ 0 ∷ [], bad_name 0)
    -- Labels of 63 and 64 octets; names of 255 and 256 octets with their closing zero, also with an asterisk.
    ∷ (letters 63 ++ (0 ∷ []), None)
    ∷ (letters 64 ++ (0 ∷ []), bad_name 0)
    ∷ (letters 63 ++ letters 63 ++ letters 63 ++ letters 61 ++ (0 ∷ []), None)
    ∷ (letters 63 ++ letters 63 ++ letters 63 ++ letters 62 ++ (0 ∷ []), bad_name 0)
    ∷ ((1 ∷ 42 ∷ []) ++ letters 63 ++ letters 63 ++ letters 63 ++ letters 59 ++ (0 ∷ []), None)
    ∷ ((1 ∷ 42 ∷ []) ++ letters 63 ++ letters 63 ++ letters 63 ++ letters 60 ++ (0 ∷ []), bad_name 0)
    -- 250 names, and any octets after them. A malformed 250th name. 100 and 101 names are within the limit.
    ∷ (names 250, None)
    ∷ (names 251, Some TooManyNames)
    ∷ (names 250 ++ (0 ∷ []), Some TooManyNames)
    ∷ (names 249 ++ (0 ∷ []), bad_name 249)
    ∷ (names 100, None)
    ∷ (names 101, None)
    -- 16,384 octets (64 names of 255 octets and one of 64), and one octet more, in the last name or after it.
    ∷ (long_names 64 62, None)
    ∷ (long_names 64 63, Some RequestTooLong)
    ∷ (long_names 64 62 ++ (0 ∷ []), Some RequestTooLong)
    ∷ (replicate 16384 0, bad_name 0)
    -- 8,192 and 8,193 octets are within the limit.
    ∷ (long_names 32 30, None)
    ∷ (long_names 32 31, None)
    ∷ []
