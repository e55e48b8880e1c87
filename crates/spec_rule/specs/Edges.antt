-- Edge cases of the rule in one table, both sides of each edge: the rows that the requirements mark P, and rows for the other sentences of
-- the rule. One theorem covers the table; it is proved by computing.
use Rattle.std.specs.Prelude.{ℕ, zero, suc, ◌≡◌, List, [], ◌∷◌, ◌++◌, map, replicate, Option, None, Some}
use Prim.Native.Char.{code}
use Prim.Native.String.{String}
use Rattle.spec_octets.specs.Octets.{text}
use Rattle.spec_octets.specs.Pieces.{split}
use Rattle.spec_octets.specs.Decimal.{decimal_octet}
use Rattle.spec_name.specs.Names.{Name, wire}
use Rattle.spec_issuer.specs.IssuerEdges.{of_lengths}
use Rattle.spec_record.specs.Property.{wire_property}
use Rattle.spec_record.specs.Records.{Record}
use Rattle.spec_value.specs.IssueValues.{IssueValue, malformed, nameless, named, issue_value}
use Rattle.spec_applicant.specs.AdmissionEdges.{someone}
use Rattle.spec_rule.specs.RelevantSet.{as_book}
use Rattle.spec_rule.specs.declared.Judgement.TheVariants.{NotGranted}
use Rattle.spec_rule.specs.Authorizations.{Authorization, unrestricted, forbidden, granted, unresolved, authorization}
use Rattle.spec_rule.specs.Verdicts.{Decision, decision, denial, verdict}
use Rattle.spec_rule.specs.IssuerLists.{listed, issuers, entries}

-- What a row is about.
pub data Cell : Type 0 where
  of_value : IssueValue → Cell
  of_name : Authorization → Cell
  of_flags : Option ℕ → Cell

-- What the definitions say, and what the requirements state.
pub record Edge : Type 0 where
  pub ruled : Cell
  pub stated : Cell

abbrev pub dotted : String → Name
dotted s = split (code ".") (text s)

abbrev pub caa : String → ℕ → String → String → Record
caa owner flags tag value =
    record { owner = dotted owner; type = 257; class = 1; ttl = 3600; rdata = wire_property (record { flags = flags; tag = text tag; value = text value }) }

-- A record of another type or class, whose data would be a critical property with an unknown tag; and a CAA record of the root, which
-- grants nobody.
abbrev pub other : String → ℕ → ℕ → Record
other owner type class =
    record { owner = dotted owner; type = type; class = class; ttl = 3600; rdata = wire_property (record { flags = 128; tag = text "tbs"; value = text "x" }) }

abbrev pub root_issuing : Record
root_issuing = record { owner = []; type = 257; class = 1; ttl = 3600; rdata = wire_property (record { flags = 0; tag = text "issue"; value = text ";" }) }

abbrev pub value_edge : String → IssueValue → Edge
value_edge s v = record { ruled = of_value (issue_value (text s)); stated = of_value v }

abbrev pub name_edge : List Record → String → Authorization → Edge
name_edge book n a = record { ruled = of_name (authorization someone (as_book book) (dotted n)); stated = of_name a }

abbrev pub flags_edge : String → Option ℕ → Edge
flags_edge s f = record { ruled = of_flags (decimal_octet (text s)); stated = of_flags f }

-- A CAA record of example.com with this tag and value.
abbrev pub valued : String → List ℕ → Record
valued tag value =
    record { owner = dotted "example.com"; type = 257; class = 1; ttl = 3600; rdata = wire_property (record { flags = 0; tag = text tag; value = value }) }

-- The name `c` with n labels `a` in front: of 127 labels in all, the most that a name can have, it takes 255 octets.
abbrev pub below : ℕ → Name
below n = replicate n (text "a") ++ dotted "c"

abbrev pub climb_edge : List Record → ℕ → Authorization → Edge
climb_edge book n a = record { ruled = of_name (authorization someone (as_book book) (below n)); stated = of_name a }

-- A set of one issue record with this value.
abbrev pub issuing : String → List Record
issuing v = caa "example.com" 0 "issue" v ∷ []

-- An alias of one name, and the same by text.
abbrev pub aliased : Name → Name → Record
aliased owner t = record { owner = owner; type = 5; class = 1; ttl = 3600; rdata = wire t }

abbrev pub cname : String → String → Record
cname owner t = aliased (dotted owner) (dotted t)

-- The name of one label, the letter k times.
abbrev pub letters : ℕ → ℕ → Name
letters letter k = replicate k letter ∷ []

-- n + 1 aliases, each leading to the next: from the owner to one letter, from there to two letters, and so on.
abbrev pub hops : ℕ → ℕ → ℕ → List Record
hops letter k zero = []
hops letter k (suc n) = aliased (letters letter k) (letters letter (suc k)) ∷ hops letter (suc k) n

abbrev pub chain : String → ℕ → ℕ → List Record
chain owner letter n = aliased (dotted owner) (letters letter 1) ∷ hops letter 1 n

abbrev pub issuing_at : Name → String → Record
issuing_at owner v = record { owner = owner; type = 257; class = 1; ttl = 3600; rdata = wire_property (record { flags = 0; tag = text "issue"; value = text v }) }

abbrev pub ca1 : List ℕ
ca1 = text "ca1.example.net"

abbrev pub ca2 : List ℕ
ca2 = text "ca2.example.org"

-- `granted` has the number of the first governing record, and then the names granted, in lower case.
abbrev pub edges : List Edge
edges =
    -- The empty value and ";" match the grammar and grant nobody. They still govern.
    value_edge "" nameless
    ∷ value_edge ";" nameless
    ∷ name_edge (issuing "") "example.com" (granted 0 [])
    ∷ name_edge (issuing ";") "example.com" (granted 0 [])
    -- A value that doesn't match the grammar grants nobody and still governs.
    ∷ value_edge "%%%%%" malformed
    ∷ name_edge (issuing "%%%%%") "example.com" (granted 0 [])
    ∷ value_edge "ca1.example.net;" (named ca1)
    ∷ name_edge (issuing "ca1.example.net;") "example.com" (granted 0 (ca1 ∷ []))
    ∷ value_edge "ca1.example.net; a=1;" malformed
    ∷ value_edge "ca1.example.net; a=1" (named ca1)
    ∷ value_edge "ca1.example.net; a=" (named ca1)
    ∷ name_edge (issuing "ca1.example.net; a=") "example.com" (granted 0 (ca1 ∷ []))
    ∷ value_edge "ca1.example.net." malformed
    ∷ value_edge "ca..net" malformed
    -- A parameter's tag may have hyphens inside it, and none first or last.
    ∷ name_edge (issuing "ca1.example.net; cert-tier=gold") "example.com" (granted 0 (ca1 ∷ []))
    ∷ name_edge (issuing "ca1.example.net; -t=1") "example.com" (granted 0 [])
    ∷ name_edge (issuing "ca1.example.net; t-=1") "example.com" (granted 0 [])
    -- issuewild alone leaves X open to anyone and *.X to ca2 only; next to issue it leaves *.X to ca2 only too.
    ∷ name_edge (caa "example.com" 0 "issuewild" "ca2.example.org" ∷ []) "example.com" unrestricted
    ∷ name_edge (caa "example.com" 0 "issuewild" "ca2.example.org" ∷ []) "*.example.com" (granted 0 (ca2 ∷ []))
    ∷ name_edge (caa "example.com" 0 "issue" "ca1.example.net" ∷ caa "example.com" 0 "issuewild" "ca2.example.org" ∷ []) "*.example.com"
    (granted 1 (ca2 ∷ []))
    ∷ name_edge (caa "example.com" 0 "issue" "ca1.example.net" ∷ caa "example.com" 0 "issuewild" "ca2.example.org" ∷ []) "example.com"
    (granted 0 (ca1 ∷ []))
    -- An issuewild value that doesn't match grants nobody for *.X and still governs, alone and next to an issue record.
    ∷ name_edge (caa "example.com" 0 "issuewild" "%%%" ∷ []) "*.example.com" (granted 0 [])
    ∷ name_edge (caa "example.com" 0 "issue" "ca1.example.net" ∷ caa "example.com" 0 "issuewild" "%%%" ∷ []) "*.example.com" (granted 1 [])
    ∷ name_edge (caa "example.com" 0 "issuewild" ";" ∷ caa "example.com" 0 "issue" "ca1.example.net" ∷ []) "*.example.com" (granted 0 [])
    -- So does a name over the limits of issuer domain names: labels of 63 and 64 octets, names of 253 and 254.
    ∷ name_edge (valued "issue" (of_lengths (63 ∷ [])) ∷ []) "example.com" (granted 0 (of_lengths (63 ∷ []) ∷ []))
    ∷ name_edge (valued "issue" (of_lengths (64 ∷ [])) ∷ []) "example.com" (granted 0 [])
    ∷ name_edge (valued "issue" (of_lengths (63 ∷ 63 ∷ 63 ∷ 61 ∷ [])) ∷ []) "example.com" (granted 0 (of_lengths (63 ∷ 63 ∷ 63 ∷ 61 ∷ []) ∷ []))
    ∷ name_edge (valued "issue" (of_lengths (63 ∷ 63 ∷ 63 ∷ 62 ∷ [])) ∷ []) "example.com" (granted 0 [])
    ∷ name_edge (valued "issuewild" (of_lengths (63 ∷ [])) ∷ []) "*.example.com" (granted 0 (of_lengths (63 ∷ []) ∷ []))
    ∷ name_edge (valued "issuewild" (of_lengths (64 ∷ [])) ∷ []) "*.example.com" (granted 0 [])
    ∷ name_edge (valued "issuewild" (of_lengths (63 ∷ 63 ∷ 63 ∷ 61 ∷ [])) ∷ []) "*.example.com" (granted 0 (of_lengths (63 ∷ 63 ∷ 63 ∷ 61 ∷ []) ∷ []))
    ∷ name_edge (valued "issuewild" (of_lengths (63 ∷ 63 ∷ 63 ∷ 62 ∷ [])) ∷ []) "*.example.com" (granted 0 [])
    -- A set of only iodef leaves its name unrestricted, even if the parent restricts.
    ∷ name_edge (caa "example.com" 0 "issue" "ca1.example.net" ∷ caa "www.example.com" 0 "iodef" "mailto:a@example.com" ∷ []) "www.example.com"
    unrestricted
    ∷ name_edge (caa "example.com" 0 "issue" "ca1.example.net" ∷ caa "www.example.com" 0 "iodef" "mailto:a@example.com" ∷ []) "pay.example.com"
    (granted 0 (ca1 ∷ []))
    -- The critical flag has the value 128; the other seven bits are ignored.
    ∷ name_edge (caa "example.com" 128 "tbs" "Unknown" ∷ []) "example.com" (forbidden 0)
    ∷ name_edge (caa "example.com" 127 "tbs" "Unknown" ∷ []) "example.com" unrestricted
    -- Of two governing records the first is reported, and both names are granted in their order. Other records in between count in the numbers.
    ∷ name_edge (caa "example.com" 0 "issue" "ca2.example.org" ∷ caa "example.com" 0 "issue" "ca1.example.net" ∷ []) "example.com"
    (granted 0 (ca2 ∷ ca1 ∷ []))
    ∷ name_edge
    (caa "example.org" 0 "issue" "ca2.example.org" ∷ caa "example.com" 0 "iodef" "mailto:a@example.com"
    ∷ caa "example.com" 0 "issue" "ca1.example.net" ∷ caa "example.com" 0 "issuewild" ";" ∷ caa "example.com" 0 "issue" "ca2.example.org" ∷ [])
    "www.example.com" (granted 2 (ca1 ∷ ca2 ∷ []))
    ∷ name_edge
    (caa "example.com" 0 "issue" ";" ∷ caa "example.com" 0 "issuewild" "ca2.example.org" ∷ caa "example.com" 0 "issuewild" "ca1.example.net" ∷ [])
    "*.example.com" (granted 1 (ca2 ∷ ca1 ∷ []))
    -- A record that grants nobody is reported if it is the first, and takes nothing away from the other.
    ∷ name_edge (caa "example.com" 0 "issue" ";" ∷ caa "example.com" 0 "issue" "ca1.example.net" ∷ []) "example.com" (granted 0 (ca1 ∷ []))
    ∷ name_edge (caa "example.com" 0 "issue" "ca1.example.net" ∷ caa "example.com" 0 "issue" "%%%%%" ∷ []) "example.com" (granted 0 (ca1 ∷ []))
    -- Limits of RFC 8657, for the account https://a/1 and the method dns-01. A record with a limit that is not met grants nobody and still
    -- governs. So does a record that has the same limit twice, though both are met.
    ∷ name_edge (issuing "ca1.example.net; accounturi=https://a/1") "example.com" (granted 0 (ca1 ∷ []))
    ∷ name_edge (issuing "ca1.example.net; accounturi=https://a/2") "example.com" (granted 0 [])
    ∷ name_edge (issuing "ca1.example.net; validationmethods=http-01,dns-01") "example.com" (granted 0 (ca1 ∷ []))
    ∷ name_edge (issuing "ca1.example.net; validationmethods=http-01") "example.com" (granted 0 [])
    ∷ name_edge (issuing "ca1.example.net; accounturi=https://a/1; accounturi=https://a/1") "example.com" (granted 0 [])
    -- Next to another record: it is reported if it is the first, and takes nothing away from the other.
    ∷ name_edge (caa "example.com" 0 "issue" "ca1.example.net; accounturi=https://a/2" ∷ caa "example.com" 0 "issue" "ca2.example.org" ∷ []) "example.com"
    (granted 0 (ca2 ∷ []))
    ∷ name_edge
    (caa "example.com" 0 "issue" "ca1.example.net; accounturi=https://a/1" ∷ caa "example.com" 0 "issue" "ca2.example.org; accounturi=https://a/2" ∷ [])
    "example.com" (granted 0 (ca1 ∷ []))
    -- In issuewild, for *.X: met, not met, and not met next to an issue record, which still does not govern *.X.
    ∷ name_edge (caa "example.com" 0 "issuewild" "ca2.example.org; accounturi=https://a/1" ∷ []) "*.example.com" (granted 0 (ca2 ∷ []))
    ∷ name_edge (caa "example.com" 0 "issuewild" "ca2.example.org; accounturi=https://a/2" ∷ []) "*.example.com" (granted 0 [])
    ∷ name_edge
    (caa "example.com" 0 "issue" "ca1.example.net" ∷ caa "example.com" 0 "issuewild" "ca2.example.org; accounturi=https://a/2" ∷ [])
    "*.example.com" (granted 1 [])
    -- Of two critical records with unknown tags the first is reported, for X and for *.X.
    ∷ name_edge (caa "example.com" 128 "tbs" "Unknown" ∷ caa "example.com" 255 "other" "Unknown" ∷ []) "example.com" (forbidden 0)
    ∷ name_edge (caa "example.com" 127 "tbs" "Unknown" ∷ caa "example.com" 255 "other" "Unknown" ∷ caa "example.com" 128 "tbs" "Unknown" ∷ [])
    "*.example.com" (forbidden 1)
    -- A critical record with an unknown tag after an issue record forbids too; one with a known tag doesn't.
    ∷ name_edge (caa "example.com" 0 "issue" "ca1.example.net" ∷ caa "example.com" 128 "tbs" "Unknown" ∷ []) "example.com" (forbidden 1)
    ∷ name_edge (caa "example.com" 0 "issue" "ca1.example.net" ∷ caa "example.com" 128 "tbs" "Unknown" ∷ []) "*.www.example.com" (forbidden 1)
    ∷ name_edge (caa "example.com" 128 "issue" "ca1.example.net" ∷ []) "example.com" (granted 0 (ca1 ∷ []))
    -- It forbids only in the relevant set.
    ∷ name_edge (caa "example.com" 128 "tbs" "Unknown" ∷ caa "www.example.com" 0 "issue" "ca1.example.net" ∷ []) "www.example.com"
    (granted 1 (ca1 ∷ []))
    -- A suffix of a name is not the name.
    ∷ name_edge (issuing "ca1.example.net") "badexample.com" unrestricted
    -- For *.X the issue records govern if there is no issuewild record.
    ∷ name_edge (issuing "ca1.example.net") "*.example.com" (granted 0 (ca1 ∷ []))
    ∷ name_edge (issuing ";") "*.www.example.com" (granted 0 [])
    ∷ name_edge (caa "example.com" 0 "iodef" "mailto:a@example.com" ∷ issuing ";") "*.example.com" (granted 1 [])
    -- Records other than type 257 and class 1 are ignored, but count in the numbers.
    ∷ name_edge (other "example.com" 1 1 ∷ other "example.com" 257 3 ∷ caa "example.com" 0 "issue" "ca1.example.net" ∷ []) "example.com"
    (granted 2 (ca1 ∷ []))
    ∷ name_edge (other "example.com" 1 1 ∷ caa "example.com" 128 "tbs" "Unknown" ∷ []) "example.com" (forbidden 1)
    ∷ name_edge (other "www.example.com" 257 3 ∷ other "www.example.com" 16 1 ∷ issuing "ca1.example.net") "www.example.com" (granted 2 (ca1 ∷ []))
    ∷ name_edge (other "example.com" 257 3 ∷ []) "example.com" unrestricted
    -- The search goes up label by label, and never to the root.
    ∷ name_edge (issuing "ca1.example.net") "a.b.c.example.com" (granted 0 (ca1 ∷ []))
    ∷ name_edge (caa "com" 0 "issue" "ca1.example.net" ∷ []) "www.example.com" (granted 0 (ca1 ∷ []))
    ∷ name_edge (root_issuing ∷ []) "www.example.com" unrestricted
    -- 3, 41 and 126 labels below the owner; a name in wire form has at most 127 labels.
    ∷ climb_edge (caa "c" 0 "issue" "ca1.example.net" ∷ []) 3 (granted 0 (ca1 ∷ []))
    ∷ climb_edge (caa "c" 0 "issue" "ca1.example.net" ∷ []) 41 (granted 0 (ca1 ∷ []))
    ∷ climb_edge (caa "c" 0 "issue" "ca1.example.net" ∷ []) 126 (granted 0 (ca1 ∷ []))
    ∷ climb_edge (root_issuing ∷ []) 126 unrestricted
    -- An asterisk in an owner is an ordinary label.
    ∷ name_edge (caa "*.example.com" 0 "issue" ";" ∷ issuing "ca1.example.net") "*.example.com" (granted 1 (ca1 ∷ []))
    ∷ name_edge (caa "*.example.com" 0 "issue" ";" ∷ []) "www.example.com" unrestricted
    -- Upper and lower case are the same in owners, names, tags and issuers.
    ∷ name_edge (caa "EXAMPLE.com" 0 "IssuE" "ca1.example.net" ∷ []) "Www.eXample.COM" (granted 0 (ca1 ∷ []))
    ∷ name_edge (caa "example.com" 0 "ISSUEWILD" "CA2.example.ORG" ∷ []) "*.example.com" (granted 0 (ca2 ∷ []))
    -- The critical flag changes nothing for known tags.
    ∷ name_edge (caa "example.com" 128 "IODEF" "mailto:a@example.com" ∷ []) "example.com" unrestricted
    ∷ name_edge (caa "example.com" 255 "issuewild" "ca2.example.org" ∷ []) "example.com" unrestricted
    -- An alias is followed, and the next one too, ignoring case. The records found are those of the end.
    ∷ name_edge (cname "www.example.com" "web.example.org" ∷ caa "web.example.org" 0 "issue" "ca1.example.net" ∷ []) "www.example.com"
    (granted 1 (ca1 ∷ []))
    ∷ name_edge
    (cname "www.example.com" "mid.example.org" ∷ caa "web.example.org" 0 "issue" "ca1.example.net" ∷ cname "mid.example.org" "web.example.org" ∷ [])
    "www.example.com" (granted 1 (ca1 ∷ []))
    ∷ name_edge
    (cname "WWW.example.com" "MID.example.org" ∷ caa "wEb.example.org" 0 "issue" "ca1.example.net" ∷ cname "mid.EXAMPLE.org" "web.exAmple.org" ∷ [])
    "www.eXample.com" (granted 1 (ca1 ∷ []))
    -- The end may be above the name, below it, or the root, and may have an asterisk.
    ∷ name_edge
    (cname "a.b.example.com" "example.com" ∷ caa "b.example.com" 0 "issue" "ca2.example.org" ∷ caa "example.com" 0 "issue" "ca1.example.net" ∷ [])
    "a.b.example.com" (granted 2 (ca1 ∷ []))
    ∷ name_edge (cname "example.com" "b.example.com" ∷ caa "b.example.com" 0 "issue" "ca2.example.org" ∷ []) "example.com" (granted 1 (ca2 ∷ []))
    ∷ name_edge (aliased (dotted "www.example.com") [] ∷ root_issuing ∷ []) "www.example.com" (granted 1 [])
    ∷ name_edge (aliased (dotted "www.example.com") [] ∷ aliased [] (dotted "net") ∷ caa "net" 0 "issue" "ca2.example.org" ∷ []) "www.example.com"
    (granted 2 (ca2 ∷ []))
    ∷ name_edge (cname "www.example.com" "*.example.org" ∷ caa "*.example.org" 0 "issue" "ca2.example.org" ∷ []) "www.example.com" (granted 1 (ca2 ∷ []))
    -- Without CAA records at the end, the search goes on at the parent of the name looked at. The names above the end are not looked at.
    ∷ name_edge (cname "www.example.com" "web.example.org" ∷ issuing "ca1.example.net") "www.example.com" (granted 1 (ca1 ∷ []))
    ∷ name_edge
    (cname "www.example.com" "web.example.org" ∷ caa "example.org" 0 "issue" "ca2.example.org" ∷ caa "example.com" 0 "issue" "ca1.example.net" ∷ [])
    "www.example.com" (granted 2 (ca1 ∷ []))
    ∷ name_edge (cname "www.example.com" "web.example.org" ∷ caa "example.org" 0 "issue" "ca2.example.org" ∷ []) "www.example.com" unrestricted
    ∷ name_edge (cname "www.example.com" "web.example.org" ∷ other "web.example.org" 1 1 ∷ issuing "ca1.example.net") "www.example.com" (granted 2 (ca1 ∷ []))
    -- A set of only iodef at the end leaves the name unrestricted.
    ∷ name_edge (cname "www.example.com" "web.example.org" ∷ caa "web.example.org" 0 "iodef" "mailto:a@example.com" ∷ issuing ";") "www.example.com"
    unrestricted
    -- The alias of a parent counts when the search comes to it, and not before.
    ∷ name_edge (cname "example.com" "example.org" ∷ caa "example.org" 0 "issue" "ca2.example.org" ∷ []) "www.example.com" (granted 1 (ca2 ∷ []))
    ∷ name_edge (cname "example.com" "example.org" ∷ caa "example.org" 0 "issue" "ca2.example.org" ∷ caa "www.example.com" 0 "issue" "ca1.example.net" ∷ [])
    "www.example.com" (granted 2 (ca1 ∷ []))
    -- For *.X the aliases of X are followed.
    ∷ name_edge
    (cname "www.example.com" "web.example.org" ∷ caa "web.example.org" 0 "issue" "ca1.example.net" ∷ caa "web.example.org" 0 "issuewild" "ca2.example.org" ∷ [])
    "*.www.example.com" (granted 2 (ca2 ∷ []))
    -- Eight aliases are followed. With a ninth the name is closed to everyone, and the first alias is reported.
    ∷ name_edge (chain "x" 97 7 ++ (issuing_at (letters 97 8) "ca1.example.net" ∷ [])) "x" (granted 8 (ca1 ∷ []))
    ∷ name_edge (chain "x" 97 8 ++ (issuing_at (letters 97 9) "ca1.example.net" ∷ [])) "x" (unresolved 0)
    ∷ name_edge (chain "x" 97 8 ++ (issuing_at (letters 97 9) "ca1.example.net" ∷ [])) "a" (granted 9 (ca1 ∷ []))
    ∷ name_edge (chain "x" 97 8) "*.x" (unresolved 0)
    -- Eight that lead to no CAA record: the search goes on at the parent. With a ninth it does not.
    ∷ name_edge (chain "x.y" 97 7 ++ (caa "y" 0 "issue" "ca1.example.net" ∷ [])) "x.y" (granted 8 (ca1 ∷ []))
    ∷ name_edge (chain "x.y" 97 8 ++ (caa "y" 0 "issue" "ca1.example.net" ∷ [])) "x.y" (unresolved 0)
    -- They are counted anew at each name: five from X lead to no CAA record, and five from its parent to one.
    ∷ name_edge (chain "x.y" 97 4 ++ (chain "y" 98 4 ++ (issuing_at (letters 98 5) "ca1.example.net" ∷ []))) "x.y" (granted 10 (ca1 ∷ []))
    -- From a name of 127 labels, the most that a name can have, to another, and to the set there. A set at a third one is not found.
    ∷ climb_edge (aliased (below 126) (text "b" ∷ below 125) ∷ issuing_at (text "b" ∷ below 125) "ca1.example.net" ∷ []) 126 (granted 1 (ca1 ∷ []))
    ∷ climb_edge (aliased (below 126) (text "b" ∷ below 125) ∷ issuing_at (text "d" ∷ below 125) "ca1.example.net" ∷ []) 126 unrestricted
    -- Aliases that lead back.
    ∷ name_edge (cname "www.example.com" "www.example.com" ∷ issuing "ca1.example.net") "www.example.com" (unresolved 0)
    ∷ name_edge (cname "web.example.com" "www.example.com" ∷ cname "www.example.com" "WEB.example.com" ∷ issuing "ca1.example.net") "www.example.com" (unresolved 1)
    -- At a parent, after nothing was found at X; and at a parent that the search does not come to.
    ∷ name_edge (caa "com" 0 "issue" "ca1.example.net" ∷ cname "example.com" "example.com" ∷ []) "www.example.com" (unresolved 1)
    ∷ name_edge (caa "www.example.com" 0 "issue" "ca1.example.net" ∷ cname "example.com" "example.com" ∷ []) "www.example.com" (granted 0 (ca1 ∷ []))
    -- Records of type 5 and another class, and of other types, are no aliases.
    ∷ name_edge
    (record { owner = dotted "www.example.com"; type = 5; class = 3; ttl = 3600; rdata = wire (dotted "web.example.org") }
    ∷ caa "web.example.org" 0 "issue" "ca2.example.org" ∷ issuing "ca1.example.net") "www.example.com" (granted 2 (ca1 ∷ []))
    ∷ name_edge
    (record { owner = dotted "www.example.com"; type = 39; class = 1; ttl = 3600; rdata = wire (dotted "web.example.org") }
    ∷ caa "web.example.org" 0 "issue" "ca2.example.org" ∷ issuing "ca1.example.net") "www.example.com" (granted 2 (ca1 ∷ []))
    -- Flags as text: at most 255.
    ∷ flags_edge "255" (Some 255)
    ∷ flags_edge "256" None
    ∷ []

abbrev pub EdgesAgree : Type 0
EdgesAgree = map (λ e. e.ruled) edges ≡ map (λ e. e.stated) edges

-- The requirements' whole case: its records, what they say about names, and the octets of its list.
abbrev pub whole_book : List Record
whole_book =
    caa "example.com" 0 "issue" "CA1.example.net"
    ∷ caa "example.com" 0 "issue" "ca2.example.org; account=230123"
    ∷ caa "example.com" 0 "issue" "ca1.example.net"
    ∷ caa "pay.example.com" 0 "issue" "ca2.example.org"
    ∷ []

abbrev pub whole_case : List String → List Authorization
whole_case ns = map (λ n. authorization someone (as_book whole_book) (dotted n)) ns

abbrev pub whole_decisions : List String → List Decision
whole_decisions ns = map (λ n. decision someone (as_book whole_book) (dotted n)) ns

abbrev pub WholeCase : Type 0
WholeCase =
    (issuers (whole_case ("www.example.com" ∷ [])) ≡ listed (ca1 ∷ ca2 ∷ []))
    × (entries (ca1 ∷ ca2 ∷ [])
    ≡ 15 ∷ 99 ∷ 97 ∷ 49 ∷ 46 ∷ 101 ∷ 120 ∷ 97 ∷ 109 ∷ 112 ∷ 108 ∷ 101 ∷ 46 ∷ 110 ∷ 101 ∷ 116
    ∷ 15 ∷ 99 ∷ 97 ∷ 50 ∷ 46 ∷ 101 ∷ 120 ∷ 97 ∷ 109 ∷ 112 ∷ 108 ∷ 101 ∷ 46 ∷ 111 ∷ 114 ∷ 103 ∷ [])
    × (issuers (whole_case ("www.example.com" ∷ "pay.example.com" ∷ [])) ≡ listed (ca2 ∷ []))
    × (verdict ca1 (whole_decisions ("www.example.com" ∷ "pay.example.com" ∷ [])) ≡ NotGranted (denial 1 3 0))
