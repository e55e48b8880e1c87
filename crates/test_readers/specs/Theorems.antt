-- What the exported readers return, on examples worked out by hand. Each statement is proved under its name in proofs/.
use Rattle.std.specs.Prelude.{◌≡◌, [], ◌∷◌, ◌++◌, replicate}
use Rattle.spec_octets.specs.Octets.{text}
use Rattle.test_readers.specs.Answers.{reader_answer}

-- A packed answer is its number + a * 2 ^ 8 + b * 2 ^ 32 + c * 2 ^ 48.
abbrev pub ReaderExamples : Type 0
ReaderExamples =
    -- 1: equality of two texts, ignoring case; a suffix of a text is not the text.
    (reader_answer 1 (text "Ca1.example") (text "cA1.EXAMPLE") 0 ≡ 1)
    × (reader_answer 1 (text "ca1.example") (text "notca1.example") 0 ≡ 0)
    × (reader_answer 1 [] [] 0 ≡ 1)
    -- 2: where a name ends; a label of 64 octets and a name that is cut off are rejected.
    × (reader_answer 2 ((3 ∷ text "www") ++ (0 ∷ [])) [] 0 ≡ 1281)
    × (reader_answer 2 ((3 ∷ text "www") ++ (0 ∷ [])) [] 4 ≡ 1281)
    × (reader_answer 2 ((64 ∷ replicate 64 97) ++ (0 ∷ [])) [] 0 ≡ 0)
    × (reader_answer 2 (3 ∷ text "www") [] 0 ≡ 0)
    -- 3: a requested name: where it ends, and where its X begins; the number is 2 for a wildcard; the root is rejected.
    × (reader_answer 3 (1 ∷ 97 ∷ 0 ∷ []) [] 0 ≡ 769)
    × (reader_answer 3 (1 ∷ 42 ∷ 1 ∷ 97 ∷ 0 ∷ []) [] 0 ≡ 8589935874)
    × (reader_answer 3 (0 ∷ []) [] 0 ≡ 0)
    -- 4: CAA data: where its value begins, and its flags; an empty tag is rejected.
    × (reader_answer 4 (128 ∷ 1 ∷ text "tv") [] 0 ≡ 549755814657)
    × (reader_answer 4 (0 ∷ 0 ∷ text "tv") [] 0 ≡ 0)
    -- 5: the property tag.
    × (reader_answer 5 (text "Issue") [] 0 ≡ 1)
    × (reader_answer 5 (text "issueWILD") [] 0 ≡ 2)
    × (reader_answer 5 (text "iodef") [] 0 ≡ 3)
    × (reader_answer 5 (text "issuewil") [] 0 ≡ 0)
    -- 6: a record: where it ends, where its owner ends, where its data begins; one that is cut off is rejected.
    × (reader_answer 6 (9 ∷ 0 ∷ 0 ∷ 1 ∷ 0 ∷ 1 ∷ 0 ∷ 0 ∷ 0 ∷ 0 ∷ 0 ∷ 1 ∷ 7 ∷ []) [] 1 ≡ 3377708310465793)
    × (reader_answer 6 (0 ∷ 0 ∷ 1 ∷ 0 ∷ 1 ∷ 0 ∷ 0 ∷ 0 ∷ 0 ∷ 0 ∷ 1 ∷ []) [] 0 ≡ 0)
    -- 7: a value of an issue property: malformed, without a name, or where its name ends and begins.
    × (reader_answer 7 (text "%%") [] 0 ≡ 0)
    × (reader_answer 7 (text " ; a=1") [] 0 ≡ 1)
    × (reader_answer 7 (text " n;") [] 0 ≡ 4294967810)
