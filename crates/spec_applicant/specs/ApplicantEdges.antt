-- Account texts and method texts, each pair with whether the requirements accept both. Worked out by hand.
use Rattle.std.specs.Prelude.{ℕ, Bool, true, false, List, [], ◌∷◌, replicate}
use Prim.Native.Char.{code}
use Rattle.spec_octets.specs.Octets.{text}
use Rattle.spec_applicant.specs.Applicant.{Applicant}

-- A good method beside an account text, and a good account beside a method text.
abbrev pub with_account : List ℕ → Applicant
with_account t = record { account = t; method = text "dns-01" }

abbrev pub with_method : List ℕ → Applicant
with_method t = record { account = text "https://a/1"; method = t }

abbrev pub applicant_edges : List (Applicant × Bool)
applicant_edges =
    (with_account (text "https://a/1"), true)
    -- 0, 1, 255 and 256 octets.
    ∷ (with_account (text ""), false)
    ∷ (with_method (text ""), false)
    ∷ (with_account (text "a"), true)
    ∷ (with_method (text "m"), true)
    ∷ (with_account (replicate 255 (code "a")), true)
    ∷ (with_method (replicate 255 (code "m")), true)
    ∷ (with_account (replicate 256 (code "a")), false)
    ∷ (with_method (replicate 256 (code "m")), false)
    -- Octets 33 to 126, so no white space, no line end and nothing above 126.
    ∷ (with_account (33 ∷ 126 ∷ []), true)
    ∷ (with_method (33 ∷ 126 ∷ []), true)
    ∷ (with_account (text "a b"), false)
    ∷ (with_method (text " m"), false)
    ∷ (with_account (text "a\t"), false)
    ∷ (with_account (text "a\n"), false)
    ∷ (with_method (text "m\n"), false)
    ∷ (with_account (0 ∷ []), false)
    ∷ (with_account (127 ∷ []), false)
    ∷ (with_method (127 ∷ []), false)
    ∷ (with_account (128 ∷ []), false)
    ∷ (with_method (255 ∷ []), false)
    -- No semicolon; its neighbours are accepted.
    ∷ (with_account (text "a;b"), false)
    ∷ (with_method (text "m;"), false)
    ∷ (with_account (text ":<"), true)
    ∷ (with_method (text ":<"), true)
    -- A comma in the account, and none in the method; its neighbours are accepted.
    ∷ (with_account (text "a,b"), true)
    ∷ (with_account (text ","), true)
    ∷ (with_method (text "m,n"), false)
    ∷ (with_method (text "m,"), false)
    ∷ (with_method (text "+-"), true)
    -- Both bad.
    ∷ (record { account = text ""; method = text "" }, false)
    ∷ []
