-- Lengths, elements and certificates as octets, each with what is read, worked out by hand.
use Rattle.std.specs.Prelude.{ℕ, ◌/◌, ◌%◌, List, [], ◌∷◌, ◌++◌, length, replicate, Option, None, Some}
use Rattle.spec_der.specs.Elements.{Element}

-- Length octets, with the length and what is left; none if they are no length.
abbrev pub length_edges : List (List ℕ × Option (ℕ × List ℕ))
length_edges =
    -- One octet: 0 to 127. What follows is left.
    (0 ∷ [], Some (0, []))
    ∷ (127 ∷ 128 ∷ [], Some (127, 128 ∷ []))
    -- Two octets: 128 to 255. 127 and 0 have a shorter form.
    ∷ (129 ∷ 128 ∷ [], Some (128, []))
    ∷ (129 ∷ 255 ∷ 9 ∷ [], Some (255, 9 ∷ []))
    ∷ (129 ∷ 127 ∷ [], None)
    ∷ (129 ∷ 0 ∷ [], None)
    -- Three octets: 256 to 65,535, high octet first. 128 and 255 have a shorter form.
    ∷ (130 ∷ 1 ∷ 0 ∷ [], Some (256, []))
    ∷ (130 ∷ 64 ∷ 3 ∷ 5 ∷ [], Some (16387, 5 ∷ []))
    ∷ (130 ∷ 255 ∷ 255 ∷ [], Some (65535, []))
    ∷ (130 ∷ 0 ∷ 128 ∷ [], None)
    ∷ (130 ∷ 0 ∷ 255 ∷ [], None)
    ∷ (130 ∷ 0 ∷ 0 ∷ [], None)
    -- Four octets and more, with zeros first and without.
    ∷ (131 ∷ 1 ∷ 0 ∷ 0 ∷ [], None)
    ∷ (131 ∷ 0 ∷ 1 ∷ 0 ∷ [], None)
    ∷ (132 ∷ 0 ∷ 0 ∷ 0 ∷ 5 ∷ [], None)
    -- 128 is the indefinite form. 255 is reserved.
    ∷ (128 ∷ [], None)
    ∷ (128 ∷ 0 ∷ 0 ∷ [], None)
    ∷ (255 ∷ [], None)
    ∷ (255 ∷ replicate 127 0, None)
    -- Lengths that are cut off.
    ∷ ([], None)
    ∷ (129 ∷ [], None)
    ∷ (130 ∷ 1 ∷ [], None)
    ∷ []

-- Elements, with tag and contents and what is left; none if no element comes first.
abbrev pub found : ℕ → List ℕ → List ℕ → Option (Element × List ℕ)
found t d rest = Some (record { tag = t; contents = d }, rest)

abbrev pub element_edges : List (List ℕ × Option (Element × List ℕ))
element_edges =
    (5 ∷ 0 ∷ [], found 5 [] [])
    ∷ (4 ∷ 2 ∷ 7 ∷ 8 ∷ 9 ∷ [], found 4 (7 ∷ 8 ∷ []) (9 ∷ []))
    ∷ (0 ∷ 0 ∷ 0 ∷ 0 ∷ [], found 0 [] (0 ∷ 0 ∷ []))
    ∷ (4 ∷ 129 ∷ 128 ∷ replicate 128 7, found 4 (replicate 128 7) [])
    ∷ (4 ∷ 130 ∷ 1 ∷ 0 ∷ replicate 257 7, found 4 (replicate 256 7) (7 ∷ []))
    -- Contents that are cut off.
    ∷ (4 ∷ 2 ∷ 7 ∷ [], None)
    ∷ (4 ∷ 129 ∷ 128 ∷ replicate 127 7, None)
    ∷ (4 ∷ [], None)
    ∷ ([], None)
    -- Tags with the low five bits all set, and those next to them.
    ∷ (30 ∷ 0 ∷ [], found 30 [] [])
    ∷ (31 ∷ 0 ∷ [], None)
    ∷ (32 ∷ 0 ∷ [], found 32 [] [])
    ∷ (63 ∷ 0 ∷ [], None)
    ∷ (127 ∷ 0 ∷ [], None)
    ∷ (191 ∷ 0 ∷ [], None)
    ∷ (254 ∷ 0 ∷ [], found 254 [] [])
    ∷ (255 ∷ 0 ∷ [], None)
    ∷ []

-- An element with a length below 128, with one of 128 to 255, and with one of 256 to 65,535.
abbrev pub short : ℕ → List ℕ → List ℕ
short t d = t ∷ length d ∷ d

abbrev pub middle : ℕ → List ℕ → List ℕ
middle t d = t ∷ 129 ∷ length d ∷ d

abbrev pub long : ℕ → List ℕ → List ℕ
long t d = t ∷ 130 ∷ length d / 256 ∷ length d % 256 ∷ d

-- Empty elements: serial number, version, and any SEQUENCE. The elements from the serial number to the subject. The two elements behind the body.
abbrev pub serial : List ℕ
serial = 2 ∷ 0 ∷ []

abbrev pub A0 : List ℕ
A0 = 160 ∷ 0 ∷ []

abbrev pub seq : List ℕ
seq = 48 ∷ 0 ∷ []

abbrev pub way : List ℕ
way = serial ++ seq ++ seq ++ seq ++ seq

abbrev pub signed : List ℕ
signed = seq ++ (3 ∷ 0 ∷ [])

-- A key of one octet with its header. A certificate by the contents of its body and what comes behind the body.
abbrev pub key : List ℕ
key = 48 ∷ 1 ∷ 7 ∷ []

abbrev pub cert : List ℕ → List ℕ → List ℕ
cert body behind = short 48 (short 48 body ++ behind)

-- The same with a key of n octets, where every length has three octets: n + 26 octets.
abbrev pub long_key : ℕ → List ℕ
long_key n = long 48 (replicate n 7)

abbrev pub long_cert : ℕ → List ℕ
long_cert n = long 48 (long 48 (way ++ long_key n) ++ signed)

-- Certificates, each with its key part, which is empty if they are none.
abbrev pub certificate_edges : List (List ℕ × List ℕ)
certificate_edges =
    -- The smallest layout, octet by octet, without and with a version. Its key has no contents.
    (48 ∷ 18 ∷ 48 ∷ 12 ∷ 2 ∷ 0 ∷ 48 ∷ 0 ∷ 48 ∷ 0 ∷ 48 ∷ 0 ∷ 48 ∷ 0 ∷ 48 ∷ 0 ∷ 48 ∷ 0 ∷ 3 ∷ 0 ∷ [], 48 ∷ 0 ∷ [])
    ∷ (48 ∷ 20 ∷ 48 ∷ 14 ∷ 160 ∷ 0 ∷ 2 ∷ 0 ∷ 48 ∷ 0 ∷ 48 ∷ 0 ∷ 48 ∷ 0 ∷ 48 ∷ 0 ∷ 48 ∷ 0 ∷ 48 ∷ 0 ∷ 3 ∷ 0 ∷ [], 48 ∷ 0 ∷ [])
    ∷ (cert (way ++ key) signed, key)
    ∷ (cert (A0 ++ way ++ key) signed, key)
    -- Two versions; a version that isn't first; another tag first; no serial number; a SEQUENCE as serial number; two serial numbers.
    ∷ (cert (A0 ++ A0 ++ way ++ key) signed, [])
    ∷ (cert (serial ++ A0 ++ seq ++ seq ++ seq ++ seq ++ key) signed, [])
    ∷ (cert ((161 ∷ 0 ∷ []) ++ way ++ key) signed, [])
    ∷ (cert (seq ++ seq ++ seq ++ seq ++ key) signed, [])
    ∷ (cert (seq ++ seq ++ seq ++ seq ++ seq ++ key) signed, [])
    ∷ (cert (serial ++ way ++ key) signed, [])
    -- The key is the fifth SEQUENCE: four are too few, and of six it is the fifth. The others are different from it.
    ∷ (cert way signed, [])
    ∷ (cert (way ++ key ++ (48 ∷ 1 ∷ 8 ∷ [])) signed, key)
    ∷ (cert (serial ++ (48 ∷ 1 ∷ 1 ∷ []) ++ (48 ∷ 1 ∷ 2 ∷ []) ++ (48 ∷ 1 ∷ 3 ∷ []) ++ (48 ∷ 1 ∷ 4 ∷ []) ++ key) signed, key)
    -- Another tag instead of a SEQUENCE: each of the five, the body, the whole.
    ∷ (cert (serial ++ (49 ∷ 0 ∷ []) ++ seq ++ seq ++ seq ++ key) signed, [])
    ∷ (cert (serial ++ seq ++ (49 ∷ 0 ∷ []) ++ seq ++ seq ++ key) signed, [])
    ∷ (cert (serial ++ seq ++ seq ++ (49 ∷ 0 ∷ []) ++ seq ++ key) signed, [])
    ∷ (cert (serial ++ seq ++ seq ++ seq ++ (49 ∷ 0 ∷ []) ++ key) signed, [])
    ∷ (cert (way ++ (49 ∷ 1 ∷ 7 ∷ [])) signed, [])
    ∷ (short 48 (short 49 (way ++ key) ++ signed), [])
    ∷ (short 49 (short 48 (way ++ key) ++ signed), [])
    ∷ (short 16 (short 48 (way ++ key) ++ signed), [])
    -- Behind the key: any elements, tag 0 too. A lone octet, an element that is cut off, a length that isn't the shortest.
    ∷ (cert (way ++ key ++ (129 ∷ 0 ∷ []) ++ (163 ∷ 1 ∷ 9 ∷ [])) signed, key)
    ∷ (cert (way ++ key ++ (0 ∷ 0 ∷ [])) signed, key)
    ∷ (cert (way ++ key ++ (0 ∷ [])) signed, [])
    ∷ (cert (way ++ key ++ (163 ∷ 2 ∷ 9 ∷ [])) signed, [])
    ∷ (cert (way ++ key ++ (163 ∷ 129 ∷ 1 ∷ 9 ∷ [])) signed, [])
    ∷ (cert (way ++ key ++ (163 ∷ 128 ∷ 0 ∷ 0 ∷ [])) signed, [])
    -- Behind the body: none, one, two of any tag, three; a lone octet; a length that isn't the shortest.
    ∷ (cert (way ++ key) [], [])
    ∷ (cert (way ++ key) seq, [])
    ∷ (cert (way ++ key) (0 ∷ 1 ∷ 9 ∷ 163 ∷ 0 ∷ []), key)
    ∷ (cert (way ++ key) (signed ++ seq), [])
    ∷ (cert (way ++ key) (signed ++ (48 ∷ [])), [])
    ∷ (cert (way ++ key) (seq ++ (3 ∷ 129 ∷ 0 ∷ [])), [])
    ∷ (cert (way ++ key) (seq ++ (3 ∷ 1 ∷ [])), [])
    -- Tags with the low five bits all set: before the key, behind it, behind the body. In an element that isn't opened they are octets like others.
    ∷ (cert ((191 ∷ 0 ∷ []) ++ way ++ key) signed, [])
    ∷ (cert (way ++ key ++ (31 ∷ 0 ∷ [])) signed, [])
    ∷ (cert (way ++ key) (seq ++ (31 ∷ 0 ∷ [])), [])
    ∷ (cert (way ++ key) ((191 ∷ 0 ∷ []) ++ seq), [])
    ∷ (cert (serial ++ (48 ∷ 2 ∷ 31 ∷ 0 ∷ []) ++ seq ++ seq ++ seq ++ key) signed, key)
    ∷ (cert (way ++ (48 ∷ 1 ∷ 31 ∷ [])) ((48 ∷ 1 ∷ 255 ∷ []) ++ (3 ∷ 2 ∷ 31 ∷ 128 ∷ [])), 48 ∷ 1 ∷ 31 ∷ [])
    -- Octets behind the whole; one octet fewer; nothing; a child that is longer than its parent.
    ∷ (cert (way ++ key) signed ++ (0 ∷ []), [])
    ∷ (cert (way ++ key) signed ++ seq, [])
    ∷ (48 ∷ 20 ∷ (short 48 (way ++ key) ++ signed), [])
    ∷ ([], [])
    ∷ (48 ∷ [], [])
    ∷ (seq, [])
    ∷ (cert [] signed, [])
    ∷ (short 48 (48 ∷ 18 ∷ (way ++ key ++ signed)), [])
    ∷ (cert (way ++ (48 ∷ 2 ∷ 7 ∷ [])) signed, [])
    -- Lengths on the way down: 30 80, 81 7F, 82 00 80, FF, and 83 for the whole.
    ∷ (48 ∷ 128 ∷ (short 48 (way ++ key) ++ signed ++ (0 ∷ 0 ∷ [])), [])
    ∷ (48 ∷ 129 ∷ 19 ∷ (short 48 (way ++ key) ++ signed), [])
    ∷ (48 ∷ 131 ∷ 0 ∷ 0 ∷ 19 ∷ (short 48 (way ++ key) ++ signed), [])
    ∷ (48 ∷ 255 ∷ (short 48 (way ++ key) ++ signed), [])
    ∷ (cert (way ++ (48 ∷ 128 ∷ 0 ∷ 0 ∷ [])) signed, [])
    -- A key of 127, 128, 255 and 256 octets, and each in a longer form than needed.
    ∷ (middle 48 (middle 48 (way ++ short 48 (replicate 127 7)) ++ signed), short 48 (replicate 127 7))
    ∷ (middle 48 (middle 48 (way ++ middle 48 (replicate 127 7)) ++ signed), [])
    ∷ (middle 48 (middle 48 (way ++ middle 48 (replicate 128 7)) ++ signed), middle 48 (replicate 128 7))
    ∷ (middle 48 (middle 48 (way ++ long 48 (replicate 128 7)) ++ signed), [])
    ∷ (long 48 (long 48 (way ++ middle 48 (replicate 255 7)) ++ signed), middle 48 (replicate 255 7))
    ∷ (long 48 (long 48 (way ++ long 48 (replicate 255 7)) ++ signed), [])
    ∷ (long_cert 256, long_key 256)
    -- 16,384 octets, and one more.
    ∷ (long_cert 16358, long_key 16358)
    ∷ (long_cert 16359, [])
    ∷ []
