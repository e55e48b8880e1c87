-- Pairs of names, each with whether they are the same name when letter case is ignored. Worked out by hand.
use Rattle.std.specs.Prelude.{Bool, true, false, List, [], ◌∷◌}
use Rattle.spec_octets.specs.Octets.{text}
use Rattle.spec_name.specs.Names.{Name}

abbrev pub name_edges : List (Name × Name × Bool)
name_edges =
    -- The same: the root twice, and names that differ only in letter case.
    ([], [], true)
    ∷ (text "www" ∷ text "hotel" ∷ text "example" ∷ [], text "WWW" ∷ text "Hotel" ∷ text "EXAMPLE" ∷ [], true)
    -- Another first letter, another last letter, another letter before a dot; the root and a name.
    ∷ (text "www" ∷ text "hotel" ∷ text "example" ∷ [], text "xww" ∷ text "hotel" ∷ text "example" ∷ [], false)
    ∷ (text "www" ∷ text "hotel" ∷ text "example" ∷ [], text "www" ∷ text "hotel" ∷ text "exampla" ∷ [], false)
    ∷ (text "www" ∷ text "hotel" ∷ text "example" ∷ [], text "www" ∷ text "hoten" ∷ text "example" ∷ [], false)
    ∷ ([], text "a" ∷ [], false)
    ∷ (text "a" ∷ [], [], false)
    -- The same letters in other labels; one label more at the beginning or at the end; a longer first label.
    ∷ (text "a" ∷ text "bc" ∷ [], text "ab" ∷ text "c" ∷ [], false)
    ∷ (text "hotel" ∷ text "example" ∷ [], text "www" ∷ text "hotel" ∷ text "example" ∷ [], false)
    ∷ (text "www" ∷ text "hotel" ∷ text "example" ∷ [], text "hotel" ∷ text "example" ∷ [], false)
    ∷ (text "www" ∷ text "hotel" ∷ [], text "www" ∷ text "hotel" ∷ text "example" ∷ [], false)
    ∷ (text "hotel" ∷ text "example" ∷ [], text "badhotel" ∷ text "example" ∷ [], false)
    ∷ (text "badhotel" ∷ text "example" ∷ [], text "hotel" ∷ text "example" ∷ [], false)
    -- Names of 15, 16, 17, 31, 32 and 33 octets with the closing zero. Each: the same in upper case; another first octet, another last one.
    ∷ (text "abcdefghijklm" ∷ [], text "ABCDEFGHIJKLM" ∷ [], true)
    ∷ (text "abcdefghijklm" ∷ [], text "zbcdefghijklm" ∷ [], false)
    ∷ (text "abcdefghijklm" ∷ [], text "abcdefghijkl-" ∷ [], false)
    ∷ (text "abcdefghijklmn" ∷ [], text "ABCDEFGHIJKLMN" ∷ [], true)
    ∷ (text "abcdefghijklmn" ∷ [], text "zbcdefghijklmn" ∷ [], false)
    ∷ (text "abcdefghijklmn" ∷ [], text "abcdefghijklm-" ∷ [], false)
    ∷ (text "abcdefghijklmno" ∷ [], text "ABCDEFGHIJKLMNO" ∷ [], true)
    ∷ (text "abcdefghijklmno" ∷ [], text "zbcdefghijklmno" ∷ [], false)
    ∷ (text "abcdefghijklmno" ∷ [], text "abcdefghijklmn-" ∷ [], false)
    ∷ (text "abcdefghijklmnopqrstuvwxyz012" ∷ [], text "ABCDEFGHIJKLMNOPQRSTUVWXYZ012" ∷ [], true)
    ∷ (text "abcdefghijklmnopqrstuvwxyz012" ∷ [], text "zbcdefghijklmnopqrstuvwxyz012" ∷ [], false)
    ∷ (text "abcdefghijklmnopqrstuvwxyz012" ∷ [], text "abcdefghijklmnopqrstuvwxyz01-" ∷ [], false)
    ∷ (text "abcdefghijklmnopqrstuvwxyz0123" ∷ [], text "ABCDEFGHIJKLMNOPQRSTUVWXYZ0123" ∷ [], true)
    ∷ (text "abcdefghijklmnopqrstuvwxyz0123" ∷ [], text "zbcdefghijklmnopqrstuvwxyz0123" ∷ [], false)
    ∷ (text "abcdefghijklmnopqrstuvwxyz0123" ∷ [], text "abcdefghijklmnopqrstuvwxyz012-" ∷ [], false)
    ∷ (text "abcdefghijklmnopqrstuvwxyz01234" ∷ [], text "ABCDEFGHIJKLMNOPQRSTUVWXYZ01234" ∷ [], true)
    ∷ (text "abcdefghijklmnopqrstuvwxyz01234" ∷ [], text "zbcdefghijklmnopqrstuvwxyz01234" ∷ [], false)
    ∷ (text "abcdefghijklmnopqrstuvwxyz01234" ∷ [], text "abcdefghijklmnopqrstuvwxyz0123-" ∷ [], false)
    ∷ []
