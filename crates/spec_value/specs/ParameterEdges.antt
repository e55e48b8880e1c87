-- Values, each with its parameters. Worked out by hand, without the productions.
use Rattle.std.specs.Prelude.{ℕ, List, [], ◌∷◌}
use Prim.Native.String.{String}
use Rattle.spec_octets.specs.Octets.{text}
use Rattle.spec_value.specs.Parameters.{Parameter}

-- A parameter by its tag and its value.
abbrev pub given : String → String → Parameter
given t v = record { tag = text t; value = text v }

abbrev pub parameter_edges : List (List ℕ × List Parameter)
parameter_edges =
    -- None.
    (text "", [])
    ∷ (text "n", [])
    ∷ (text "n;", [])
    ∷ (text " n ; \t", [])
    ∷ (text ";", [])
    -- One, after a name or without one.
    ∷ (text "n;a=1", given "a" "1" ∷ [])
    ∷ (text "n; a=1", given "a" "1" ∷ [])
    ∷ (text "; a=1", given "a" "1" ∷ [])
    ∷ (text "ca1.example.net; account=230123", given "account" "230123" ∷ [])
    ∷ (text "ca1.example.net; cert-tier=gold", given "cert-tier" "gold" ∷ [])
    -- Several, in the order of the value; the same tag twice; tag and value in the letter case of the value.
    ∷ (text "n;b=1;a=2;c=3", given "b" "1" ∷ given "a" "2" ∷ given "c" "3" ∷ [])
    ∷ (text "n; a=1; a=1", given "a" "1" ∷ given "a" "1" ∷ [])
    ∷ (text "n; a=x; A=X", given "a" "x" ∷ given "A" "X" ∷ [])
    -- White space before and after a parameter, and on both sides of "=", is no part of it.
    ∷ (text "n;\ta=1;b=2\t", given "a" "1" ∷ given "b" "2" ∷ [])
    ∷ (text "n;a =1; b\t=2", given "a" "1" ∷ given "b" "2" ∷ [])
    ∷ (text "n;a= 1 ;b=\t2", given "a" "1" ∷ given "b" "2" ∷ [])
    ∷ (text " n ; a = 1 ; b = 2 ", given "a" "1" ∷ given "b" "2" ∷ [])
    -- An empty value.
    ∷ (text "n; a=", given "a" "" ∷ [])
    ∷ (text "n;a = 1 ; b= ", given "a" "1" ∷ given "b" "" ∷ [])
    -- Only the first "=" separates. A comma, a colon and a slash are parts of a value.
    ∷ (text "n; a==b", given "a" "=b" ∷ [])
    ∷ (text "n; a=b=c=", given "a" "b=c=" ∷ [])
    ∷ (text "n; a= =", given "a" "=" ∷ [])
    ∷ (text "n; a=1,2; b=https://a/1", given "a" "1,2" ∷ given "b" "https://a/1" ∷ [])
    ∷ []
