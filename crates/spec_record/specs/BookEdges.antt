-- Books as octets, each with the refusal that the requirements state, or none.
use Rattle.std.specs.Prelude.{ℕ, ◌-◌, ◌/◌, ◌%◌, List, [], ◌∷◌, ◌++◌, length, replicate, Option, None, Some}
use Rattle.spec_refusal.specs.declared.Refusal.{Refusal}
use Rattle.spec_refusal.specs.declared.Refusal.TheVariants.{BookTooLong, BadRecord, TooManyRecords, AliasConflict}
use Rattle.spec_octets.specs.Lists.{flatten}
use Rattle.spec_octets.specs.Octets.{text}

abbrev pub bad_record : ℕ → Option Refusal
bad_record k = Some (BadRecord (record { 0 = k }))

abbrev pub conflict : ℕ → Option Refusal
conflict k = Some (AliasConflict (record { 0 = k }))

-- A record with the owner `a`: the two octets of its type, its class, the data length field, and the data.
abbrev pub record_octets : ℕ → ℕ → ℕ → ℕ → List ℕ → List ℕ
record_octets high low class n d = (1 ∷ 97 ∷ 0 ∷ high ∷ low ∷ 0 ∷ class ∷ 9 ∷ 9 ∷ 9 ∷ 9 ∷ 0 ∷ n ∷ []) ++ d

-- Type 257 and class 1; type 1 and class 1; type 257 and class 3.
abbrev pub caa_octets : List ℕ → List ℕ
caa_octets d = record_octets 1 1 1 (length d) d

abbrev pub address_octets : List ℕ → List ℕ
address_octets d = record_octets 0 1 1 (length d) d

abbrev pub chaos_octets : List ℕ → List ℕ
chaos_octets d = record_octets 1 1 3 (length d) d

-- A CAA record of the root.
abbrev pub root_octets : List ℕ → List ℕ
root_octets d = (0 ∷ 1 ∷ 1 ∷ 0 ∷ 1 ∷ 9 ∷ 9 ∷ 9 ∷ 9 ∷ 0 ∷ length d ∷ []) ++ d

-- A record by its owner, the two octets of its type, its class and its data.
abbrev pub owned_octets : List ℕ → ℕ → ℕ → ℕ → List ℕ → List ℕ
owned_octets owner high low class d = owner ++ (high ∷ low ∷ 0 ∷ class ∷ 9 ∷ 9 ∷ 9 ∷ 9 ∷ length d / 256 ∷ length d % 256 ∷ []) ++ d

-- An alias with the owner `a` and these data; an alias of any owner, with the target `t`; a CAA record of any owner.
abbrev pub alias_data : List ℕ → List ℕ
alias_data d = owned_octets (1 ∷ 97 ∷ 0 ∷ []) 0 5 1 d

abbrev pub alias_of : List ℕ → List ℕ
alias_of owner = owned_octets owner 0 5 1 (1 ∷ 116 ∷ 0 ∷ [])

abbrev pub caa_of : List ℕ → List ℕ
caa_of owner = owned_octets owner 1 1 1 (0 ∷ 1 ∷ text "t")

-- Owners: `a`, `A`, `b`, `a.a`, the root.
abbrev pub a : List ℕ
a = 1 ∷ 97 ∷ 0 ∷ []

abbrev pub capital_a : List ℕ
capital_a = 1 ∷ 65 ∷ 0 ∷ []

abbrev pub b : List ℕ
b = 1 ∷ 98 ∷ 0 ∷ []

abbrev pub below : List ℕ
below = 1 ∷ 97 ∷ 1 ∷ 97 ∷ 0 ∷ []

abbrev pub root : List ℕ
root = 0 ∷ []

-- A label of n octets.
abbrev pub label_of : ℕ → List ℕ
label_of n = n ∷ replicate n 98

-- n records of the root without data, each of 11 octets; and one record of n octets.
abbrev pub records : ℕ → List ℕ
records n = flatten (replicate n (0 ∷ 0 ∷ 1 ∷ 0 ∷ 1 ∷ 0 ∷ 0 ∷ 0 ∷ 0 ∷ 0 ∷ 0 ∷ []))

abbrev pub of_octets : ℕ → List ℕ
of_octets n = (0 ∷ 0 ∷ 1 ∷ 0 ∷ 1 ∷ 0 ∷ 0 ∷ 0 ∷ 0 ∷ (n - 11) / 256 ∷ (n - 11) % 256 ∷ []) ++ replicate (n - 11) 0

abbrev pub book_edges : List (List ℕ × Option Refusal)
book_edges =
    -- No record; CAA data of flags, tag length, tag and value; CAA data without a value.
    ([], None)
    ∷ (caa_octets (0 ∷ 5 ∷ text "issueca1.example.net"), None)
    ∷ (caa_octets (255 ∷ 1 ∷ text "t"), None)
    -- Fewer than 2 octets, an empty tag, a tag longer than the data.
    ∷ (caa_octets [], bad_record 0)
    ∷ (caa_octets (0 ∷ []), bad_record 0)
    ∷ (caa_octets (0 ∷ 0 ∷ []), bad_record 0)
    ∷ (caa_octets (0 ∷ 0 ∷ text "t"), bad_record 0)
    ∷ (caa_octets (0 ∷ 2 ∷ text "t"), bad_record 0)
    -- A tag octet that is no letter or digit, critical or not; as the first, the last and the only octet; a hyphen, a space, the octets next to
    -- letters and digits, and some that are not ASCII text.
    ∷ (caa_octets (128 ∷ 4 ∷ text "tb_s"), bad_record 0)
    ∷ (caa_octets (0 ∷ 4 ∷ text "tb_s"), bad_record 0)
    ∷ (caa_octets (0 ∷ 4 ∷ text "_tbs"), bad_record 0)
    ∷ (caa_octets (0 ∷ 4 ∷ text "tbs_"), bad_record 0)
    ∷ (caa_octets (0 ∷ 1 ∷ text "_"), bad_record 0)
    ∷ (caa_octets (0 ∷ 3 ∷ text "a-b"), bad_record 0)
    ∷ (caa_octets (0 ∷ 6 ∷ text "issue ca1.example.net"), bad_record 0)
    ∷ (caa_octets (0 ∷ 1 ∷ text "/"), bad_record 0)
    ∷ (caa_octets (0 ∷ 1 ∷ text ":"), bad_record 0)
    ∷ (caa_octets (0 ∷ 1 ∷ text "@"), bad_record 0)
    ∷ (caa_octets (0 ∷ 1 ∷ text "["), bad_record 0)
    ∷ (caa_octets (0 ∷ 1 ∷ text "`"), bad_record 0)
    ∷ (caa_octets (0 ∷ 1 ∷ text "{"), bad_record 0)
    ∷ (caa_octets (0 ∷ 3 ∷ 116 ∷ 0 ∷ 115 ∷ []), bad_record 0)
    ∷ (caa_octets (0 ∷ 3 ∷ 116 ∷ 128 ∷ 115 ∷ []), bad_record 0)
    ∷ (caa_octets (0 ∷ 3 ∷ 116 ∷ 255 ∷ 115 ∷ []), bad_record 0)
    -- Letters in upper and lower case, digits; any octets in a value, and the first octet behind the tag.
    ∷ (caa_octets (128 ∷ 3 ∷ text "T0Z"), None)
    ∷ (caa_octets (0 ∷ 6 ∷ text "09AZaz"), None)
    ∷ (caa_octets (0 ∷ 5 ∷ text "issueca_1-\t"), None)
    ∷ (caa_octets (0 ∷ 1 ∷ text "t_"), None)
    ∷ (caa_octets (0 ∷ 2 ∷ text "t_"), bad_record 0)
    -- Such a tag of the root; in a record of another class, and of another type, where it is no tag.
    ∷ (root_octets (0 ∷ 4 ∷ text "tb_s"), bad_record 0)
    ∷ (root_octets (0 ∷ 3 ∷ text "tbs"), None)
    ∷ (chaos_octets (128 ∷ 4 ∷ text "tb_s"), None)
    ∷ (address_octets (128 ∷ 4 ∷ text "tb_s"), None)
    -- Records other than CAA may hold any data, and they count in the record number.
    ∷ (address_octets [], None)
    ∷ (chaos_octets (0 ∷ []), None)
    ∷ (address_octets [] ++ chaos_octets [] ++ caa_octets (0 ∷ []), bad_record 2)
    -- Owners: the root, any octets, a length octet above 63, a compression pointer, one that is cut off.
    ∷ (0 ∷ 0 ∷ 1 ∷ 0 ∷ 1 ∷ 0 ∷ 0 ∷ 0 ∷ 0 ∷ 0 ∷ 0 ∷ [], None)
    ∷ (2 ∷ 255 ∷ 46 ∷ 0 ∷ 0 ∷ 1 ∷ 0 ∷ 1 ∷ 0 ∷ 0 ∷ 0 ∷ 0 ∷ 0 ∷ 0 ∷ [], None)
    ∷ (64 ∷ [], bad_record 0)
    ∷ (192 ∷ 12 ∷ 0 ∷ 1 ∷ 0 ∷ 1 ∷ 0 ∷ 0 ∷ 0 ∷ 0 ∷ 0 ∷ 0 ∷ [], bad_record 0)
    ∷ (1 ∷ 97 ∷ [], bad_record 0)
    -- Fixed fields that are cut off; a data length that is too long by one, and too short by one.
    ∷ (address_octets [] ++ (1 ∷ 97 ∷ 0 ∷ 0 ∷ 1 ∷ 0 ∷ 1 ∷ 0 ∷ 0 ∷ 0 ∷ 0 ∷ 0 ∷ []), bad_record 1)
    ∷ (record_octets 0 1 1 3 (1 ∷ 2 ∷ []), bad_record 0)
    ∷ (record_octets 0 1 1 1 (1 ∷ 2 ∷ []), bad_record 1)
    -- The first fault is reported: malformed CAA data, a tag, and a record that is cut off.
    ∷ (caa_octets (0 ∷ []) ++ (1 ∷ 97 ∷ []), bad_record 0)
    ∷ (caa_octets (0 ∷ 1 ∷ text "t") ++ caa_octets (0 ∷ []) ++ (1 ∷ 97 ∷ []), bad_record 1)
    ∷ (caa_octets (0 ∷ 1 ∷ text "t") ++ (1 ∷ 97 ∷ []), bad_record 1)
    ∷ (caa_octets (0 ∷ 1 ∷ text "t") ++ caa_octets (0 ∷ 4 ∷ text "tb_s") ++ (1 ∷ 97 ∷ []), bad_record 1)
    ∷ (caa_octets (0 ∷ 4 ∷ text "tb_s") ++ caa_octets (0 ∷ []), bad_record 0)
    -- Alias data: a name, the root, any octets, a name in upper case; labels of 63 and 64 octets; names of 255 and 256 octets.
    ∷ (alias_data (1 ∷ 98 ∷ 0 ∷ []), None)
    ∷ (alias_data (0 ∷ []), None)
    ∷ (alias_data (3 ∷ 255 ∷ 46 ∷ 0 ∷ 1 ∷ 66 ∷ 0 ∷ []), None)
    ∷ (alias_data (label_of 63 ++ (0 ∷ [])), None)
    ∷ (alias_data (label_of 64 ++ (0 ∷ [])), bad_record 0)
    ∷ (alias_data (label_of 63 ++ label_of 63 ++ label_of 63 ++ label_of 61 ++ (0 ∷ [])), None)
    ∷ (alias_data (label_of 63 ++ label_of 63 ++ label_of 63 ++ label_of 62 ++ (0 ∷ [])), bad_record 0)
    -- Alias data that is empty, cut off, or has an octet behind the name; a compression pointer, alone and behind a label.
    ∷ (alias_data [], bad_record 0)
    ∷ (alias_data (1 ∷ 98 ∷ []), bad_record 0)
    ∷ (alias_data (2 ∷ 98 ∷ 0 ∷ []), bad_record 0)
    ∷ (alias_data (1 ∷ 98 ∷ 0 ∷ 0 ∷ []), bad_record 0)
    ∷ (alias_data (0 ∷ 0 ∷ []), bad_record 0)
    ∷ (alias_data (192 ∷ 12 ∷ []), bad_record 0)
    ∷ (alias_data (1 ∷ 98 ∷ 192 ∷ 12 ∷ []), bad_record 0)
    -- Types 4, 6 and 39 and type 5 of class 3 may hold any data. A type is read from both octets.
    ∷ (owned_octets a 0 4 1 [], None)
    ∷ (owned_octets a 0 6 1 [], None)
    ∷ (owned_octets a 0 39 1 [], None)
    ∷ (owned_octets a 0 5 3 [], None)
    ∷ (owned_octets a 1 5 1 [], None)
    -- The first fault is reported, whether of an alias or of a CAA record.
    ∷ (alias_of a ++ address_octets [] ++ alias_data [] ++ caa_octets [], bad_record 2)
    -- Conflicts: CAA record and alias, in both orders; two aliases, with the same target or not. Two CAA records are none.
    ∷ (caa_of a ++ alias_of a, conflict 1)
    ∷ (alias_of a ++ caa_of a, conflict 1)
    ∷ (alias_of a ++ alias_of a, conflict 1)
    ∷ (alias_of a ++ alias_data (1 ∷ 98 ∷ 0 ∷ []), conflict 1)
    ∷ (caa_of a ++ caa_of a, None)
    -- Owners that differ in letter case are one owner, and so is the root. Any other owner is another one.
    ∷ (alias_of a ++ caa_of capital_a, conflict 1)
    ∷ (alias_of root ++ caa_of root, conflict 1)
    ∷ (alias_of root ++ alias_of root, conflict 1)
    ∷ (alias_of a ++ caa_of b, None)
    ∷ (alias_of a ++ alias_of b, None)
    ∷ (alias_of a ++ caa_of below ++ caa_of root, None)
    ∷ (caa_of a ++ alias_of below ++ alias_of root, None)
    -- An alias whose target has a CAA record or is its own owner.
    ∷ (alias_data b ++ caa_of b, None)
    ∷ (alias_data a, None)
    -- Records of other types, and of other classes, beside an alias and beside a CAA record.
    ∷ (alias_of a ++ address_octets [], None)
    ∷ (address_octets [] ++ alias_of a, None)
    ∷ (caa_of a ++ owned_octets a 0 5 3 b ++ owned_octets a 0 5 3 b, None)
    ∷ (alias_of a ++ owned_octets a 0 5 3 b, None)
    ∷ (alias_of a ++ chaos_octets (0 ∷ 1 ∷ text "t"), None)
    ∷ (alias_of a ++ owned_octets a 0 39 1 b, None)
    -- The number of the later record, the lowest such. All records count.
    ∷ (caa_of a ++ caa_of a ++ alias_of a, conflict 2)
    ∷ (address_octets [] ++ alias_of a ++ alias_of b ++ caa_of a, conflict 3)
    ∷ (caa_of a ++ alias_of b ++ caa_of b ++ alias_of a, conflict 2)
    ∷ (caa_of a ++ alias_of a ++ alias_of a, conflict 1)
    -- A conflict is found after every malformed record, after too many records and after too many octets.
    ∷ (caa_of a ++ alias_of a ++ (1 ∷ 97 ∷ []), bad_record 2)
    ∷ (caa_of a ++ alias_of a ++ alias_data [], bad_record 2)
    ∷ (caa_of a ++ alias_of a ++ caa_octets [], bad_record 2)
    ∷ (caa_of a ++ alias_of a ++ records 1023, Some TooManyRecords)
    ∷ (caa_of a ++ records 1022 ++ alias_of a, conflict 1023)
    ∷ (caa_of a ++ alias_of a ++ of_octets 49121, Some BookTooLong)
    ∷ (caa_of a ++ alias_of a ++ of_octets 49120, conflict 1)
    -- 1,024 records, and any octets after them. A malformed 1,024th record. 256 and 257 records are within the limit.
    ∷ (records 1024, None)
    ∷ (records 1025, Some TooManyRecords)
    ∷ (records 1024 ++ (64 ∷ []), Some TooManyRecords)
    ∷ (records 1023 ++ (64 ∷ []), bad_record 1023)
    ∷ (records 256, None)
    ∷ (records 257, None)
    -- 49,152 octets, and one more: one record of the root that fills the book. 32,768 and 32,769 octets are within the limit.
    ∷ (of_octets 49152, None)
    ∷ (of_octets 49153, Some BookTooLong)
    ∷ (replicate 49152 255, bad_record 0)
    ∷ (of_octets 32768, None)
    ∷ (of_octets 32769, None)
    ∷ []
