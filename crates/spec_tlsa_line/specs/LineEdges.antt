-- TLSA lines, each with what the requirements say of it, written without the productions. Worked out by hand.
use Rattle.std.specs.Prelude.{ℕ, List, [], ◌∷◌, ◌++◌, Option, None, Some}
use Rattle.spec_octets.specs.Octets.{text}
use Rattle.spec_tlsa.specs.Association.{Association}

-- Usage 3, selector 1, matching type 0 and these octets; and these three fields with the octet 171.
abbrev pub octets : List ℕ → Option Association
octets d = Some (record { usage = 3; selector = 1; matching = 0; octets = d })

abbrev pub headed : ℕ → ℕ → ℕ → Option Association
headed u s m = Some (record { usage = u; selector = s; matching = m; octets = 171 ∷ [] })

abbrev pub line_edges : List (List ℕ × Option Association)
line_edges =
    -- The three numbers: 1 to 3 digits each, at most 255; leading zeros are allowed. The order of the fields.
    (text "3 1 0 ab", headed 3 1 0)
    ∷ (text "0 0 1 ab", headed 0 0 1)
    ∷ (text "1 2 3 ab", headed 1 2 3)
    ∷ (text "255 255 255 ab", headed 255 255 255)
    ∷ (text "003 01 000 ab", headed 3 1 0)
    ∷ (text "256 1 0 ab", None)
    ∷ (text "3 256 0 ab", None)
    ∷ (text "3 1 256 ab", None)
    ∷ (text "0000 1 0 ab", None)
    ∷ (text "3 0001 0 ab", None)
    ∷ (text "3 1 0000 ab", None)
    ∷ (text "-3 1 0 ab", None)
    ∷ (text "a 1 0 ab", None)
    ∷ (text "3 a 0 ab", None)
    ∷ (text "3 1 a ab", None)
    ∷ (text "0x3 1 0 ab", None)
    -- White space between the fields; none before or after the line.
    ∷ (text "3 \t 1\t\t0   ab", headed 3 1 0)
    ∷ (text "31 0 ab", None)
    ∷ (text " 3 1 0 ab", None)
    ∷ (text "3 1 0 ab ", None)
    ∷ (text "3 1 0 ab\t", None)
    ∷ (text "3 1 0 ab\n", None)
    ∷ (text "3 1 0\nab", None)
    -- Missing fields.
    ∷ (text "", None)
    ∷ (text "3 1 0", None)
    ∷ (text "3 1 0 ", None)
    ∷ (text "3 1 ab", None)
    -- Digits: either letter case, also within an octet; no other octet.
    ∷ (text "3 1 0 09", octets (9 ∷ []))
    ∷ (text "3 1 0 AF", octets (175 ∷ []))
    ∷ (text "3 1 0 af", octets (175 ∷ []))
    ∷ (text "3 1 0 aF0bFf", octets (175 ∷ 11 ∷ 255 ∷ []))
    ∷ (text "3 1 0 00", octets (0 ∷ []))
    ∷ (text "3 1 0 ag", None)
    ∷ (text "3 1 0 Ga", None)
    ∷ (text "3 1 0 a`", None)
    ∷ (text "3 1 0 @a", None)
    ∷ (text "3 1 0 a/", None)
    ∷ (text "3 1 0 :a", None)
    ∷ (text "3 1 0 0xab", None)
    ∷ (text "3 1 0 \"ab\"", None)
    ∷ (text "3 1 0 (ab)", None)
    ∷ (text "3 1 0 " ++ (97 ∷ 255 ∷ []), None)
    -- The number of digits: even and not 0.
    ∷ (text "3 1 0 a", None)
    ∷ (text "3 1 0 abc", None)
    ∷ (text "3 1 0 ab c", None)
    ∷ (text "3 1 0 abcd", octets (171 ∷ 205 ∷ []))
    -- White space between digits, also within an octet.
    ∷ (text "3 1 0 ab cd", octets (171 ∷ 205 ∷ []))
    ∷ (text "3 1 0 a b", octets (171 ∷ []))
    ∷ (text "3 1 0 a \t bc\td", octets (171 ∷ 205 ∷ []))
    ∷ (text "3 1 0 ab\ncd", None)
    ∷ []
