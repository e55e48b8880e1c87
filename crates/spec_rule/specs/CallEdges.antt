-- The two calls on octets, each with the answer and the buffer that the requirements state.
use Rattle.std.specs.Prelude.{ℕ, ◌≡◌, List, [], ◌∷◌, ◌++◌, map, replicate}
use Prim.Native.Char.{code}
use Prim.Native.String.{String}
use Rattle.spec_refusal.specs.declared.Refusal.TheVariants.{BadName, BadIssuer, BookTooLong, BadRecord, NoRoom, AliasConflict, BadAccountOrMethod}
use Rattle.spec_octets.specs.Lists.{flatten}
use Rattle.spec_octets.specs.Octets.{text}
use Rattle.spec_name.specs.Names.{wire}
use Rattle.spec_record.specs.Records.{Record, wire_record}
use Rattle.spec_record.specs.BookEdges.{of_octets}
use Rattle.spec_rule.specs.declared.Judgement.{Judgement}
use Rattle.spec_rule.specs.declared.Judgement.TheVariants.{Permitted, UnknownCritical, NotGranted, TooManyAliases, Refused}
use Rattle.spec_rule.specs.declared.PermittedIssuers.TheVariants.{Anyone, Listed, Refused as ListRefused}
use Rattle.spec_applicant.specs.Applicant.{Applicant}
use Rattle.spec_applicant.specs.ApplicantEdges.{with_account, with_method}
use Rattle.spec_applicant.specs.AdmissionEdges.{someone}
use Rattle.spec_rule.specs.Verdicts.{denial}
use Rattle.spec_rule.specs.Calls.{judge, Listing, list_issuers}
use Rattle.spec_rule.specs.Edges.{dotted, caa, cname, ca1, ca2, whole_book}

-- A request for these names; and these records as a book.
abbrev pub asking : List String → List ℕ
asking ns = flatten (map (λ n. wire (dotted n)) ns)

abbrev pub book_of : List Record → List ℕ
book_of rs = flatten (map wire_record rs)

-- A record that grants, and behind it a critical one with this tag, at an owner that nobody asks for.
abbrev pub elsewhere : String → List ℕ
elsewhere tag = book_of (caa "example.com" 0 "issue" "ca1.example.net" ∷ caa "elsewhere.example" 128 tag "x" ∷ [])

abbrev pub www : List ℕ
www = asking ("www.example.com" ∷ [])

abbrev pub both : List ℕ
both = asking ("www.example.com" ∷ "pay.example.com" ∷ [])

-- Two records of one owner, each with a limit: the first grants to the account https://a/2, the second by the method dns-01.
abbrev pub limited : List ℕ
limited =
    book_of
    (caa "example.com" 0 "issue" "ca2.example.org; accounturi=https://a/2"
    ∷ caa "example.com" 0 "issue" "ca1.example.net; validationmethods=dns-01"
    ∷ [])

-- A record that grants, and an alias of a name to itself.
abbrev pub circular : List ℕ
circular = book_of (caa "example.com" 0 "issue" "ca1.example.net" ∷ cname "pay.example.com" "pay.example.com" ∷ [])

-- A record that grants; and behind it a CAA record, and an alias of the same owner in other letters.
abbrev pub conflicting : List ℕ
conflicting =
    book_of
    (caa "example.com" 0 "issue" "ca1.example.net"
    ∷ caa "pay.example.com" 0 "issue" "ca2.example.org"
    ∷ cname "PAY.Example.com" "example.org"
    ∷ [])

-- A refused applicant: its account is empty.
abbrev pub nobody : Applicant
nobody = with_account []

-- What the call answers, and what the requirements state.
pub record CallEdge : Type 0 where
  pub answered : Judgement
  pub stated : Judgement

abbrev pub call_edge : List ℕ → List ℕ → List ℕ → Judgement → CallEdge
call_edge request issuer book j = record { answered = judge request issuer someone book; stated = j }

-- The same for another applicant than `someone`.
abbrev pub call_edge_for : Applicant → List ℕ → List ℕ → List ℕ → Judgement → CallEdge
call_edge_for who request issuer book j = record { answered = judge request issuer who book; stated = j }

abbrev pub call_edges : List CallEdge
call_edges =
    -- The whole case; the issuer in mixed case; the lowest name that is not permitted; an issuer that only ends like a granted one; no record.
    call_edge both ca1 (book_of whole_book) (NotGranted (denial 1 3 0))
    ∷ call_edge both (text "CA2.example.ORG") (book_of whole_book) Permitted
    ∷ call_edge (asking ("pay.example.com" ∷ "www.example.com" ∷ [])) (text "ca3") (book_of whole_book) (NotGranted (denial 0 3 0))
    ∷ call_edge www (text "notca1.example.net") (book_of whole_book) (NotGranted (denial 0 0 1))
    ∷ call_edge www (text "n") [] Permitted
    -- A critical record with an unknown tag for the second name; if the first name is not granted, that is reported instead.
    ∷ call_edge both ca1 (book_of (caa "example.com" 0 "issue" "ca1.example.net" ∷ caa "pay.example.com" 128 "tbs" "x" ∷ [])) (UnknownCritical (denial 1 1 0))
    ∷ call_edge both ca2 (book_of (caa "example.com" 0 "issue" "ca1.example.net" ∷ caa "pay.example.com" 128 "tbs" "x" ∷ [])) (NotGranted (denial 0 0 1))
    -- The order of the checks: request, issuer domain name, book. Where one breaks its rule, so do all that are checked after it.
    ∷ call_edge [] [] (64 ∷ []) (Refused (BadName (record { 0 = 0 })))
    ∷ call_edge www [] (64 ∷ []) (Refused BadIssuer)
    ∷ call_edge www (text "n") (64 ∷ []) (Refused (BadRecord (record { 0 = 0 })))
    -- The account and the method are checked after the issuer domain name and before the book.
    ∷ call_edge_for nobody [] [] (64 ∷ []) (Refused (BadName (record { 0 = 0 })))
    ∷ call_edge_for nobody www [] (64 ∷ []) (Refused BadIssuer)
    ∷ call_edge_for nobody www (text "n") (64 ∷ []) (Refused BadAccountOrMethod)
    -- Where only they break a rule: an empty account; accounts of 255 and 256 octets; a comma in the account and in the method.
    ∷ call_edge_for nobody www (text "n") [] (Refused BadAccountOrMethod)
    ∷ call_edge_for (with_account (replicate 255 (code "a"))) www (text "n") [] Permitted
    ∷ call_edge_for (with_account (replicate 256 (code "a"))) www (text "n") [] (Refused BadAccountOrMethod)
    ∷ call_edge_for (with_account (text "a,b")) www (text "n") [] Permitted
    ∷ call_edge_for (with_method (text "a,b")) www (text "n") [] (Refused BadAccountOrMethod)
    -- The same records for three applicants. A record whose limit is not met is still the first that governs.
    ∷ call_edge www ca1 limited Permitted
    ∷ call_edge www ca2 limited (NotGranted (denial 0 0 1))
    ∷ call_edge_for (with_account (text "https://a/2")) www ca2 limited Permitted
    ∷ call_edge_for (with_method (text "http-01")) www ca1 limited (NotGranted (denial 0 0 1))
    -- A tag with an octet that is no letter or digit refuses the book, whoever owns the record. A tag of letters does not.
    ∷ call_edge www ca1 (elsewhere "tb_s") (Refused (BadRecord (record { 0 = 1 })))
    ∷ call_edge www ca1 (elsewhere "tbs") Permitted
    ∷ call_edge www ca1 (book_of (caa "example.com" 0 "tb_s" "x" ∷ caa "example.com" 0 "issue" "ca1.example.net" ∷ [])) (Refused (BadRecord (record { 0 = 0 })))
    -- Aliases that don't end deny their name, to everyone. The lowest name that is not permitted decides.
    ∷ call_edge both ca1 circular (TooManyAliases (denial 1 1 0))
    ∷ call_edge both ca2 circular (NotGranted (denial 0 0 1))
    ∷ call_edge (asking ("pay.example.com" ∷ "www.example.com" ∷ [])) ca2 circular (TooManyAliases (denial 0 1 0))
    -- An alias and a CAA record of one owner, or two aliases, refuse the book, whoever is asked for. Of two owners they do not.
    ∷ call_edge www ca1 conflicting (Refused (AliasConflict (record { 0 = 2 })))
    ∷ call_edge www ca1 (book_of (cname "a.example" "b.example" ∷ cname "c.example" "b.example" ∷ cname "a.example" "b.example" ∷ []))
    (Refused (AliasConflict (record { 0 = 2 })))
    ∷ call_edge www ca1
    (book_of (caa "example.com" 0 "issue" "ca1.example.net" ∷ cname "pay.example.com" "example.com" ∷ caa "a.pay.example.com" 0 "issue" ";" ∷ [])) Permitted
    -- They are found last: after a request, an issuer domain name and an account that are refused, a book that is too long and a record that is cut off.
    ∷ call_edge_for nobody [] [] conflicting (Refused (BadName (record { 0 = 0 })))
    ∷ call_edge_for nobody www [] conflicting (Refused BadIssuer)
    ∷ call_edge_for nobody www ca1 conflicting (Refused BadAccountOrMethod)
    ∷ call_edge www ca1 (conflicting ++ of_octets 49152) (Refused BookTooLong)
    ∷ call_edge www ca1 (conflicting ++ (64 ∷ [])) (Refused (BadRecord (record { 0 = 3 })))
    ∷ []

abbrev pub CallsAgree : Type 0
CallsAgree = map (λ e. e.answered) call_edges ≡ map (λ e. e.stated) call_edges

-- Two owners that grant the same two issuers in different orders, and one that forbids issuance.
abbrev pub orders : List ℕ
orders =
    book_of
    (caa "example.com" 0 "issue" "ca2.example.org"
    ∷ caa "example.com" 0 "issue" "CA1.example.net"
    ∷ caa "example.com" 0 "issue" "ca2.example.org"
    ∷ caa "pay.example.com" 0 "issue" "ca1.example.net"
    ∷ caa "pay.example.com" 0 "issue" ";"
    ∷ caa "pay.example.com" 0 "issue" "CA2.example.org"
    ∷ caa "bad.example.com" 128 "tbs" "Unknown"
    ∷ [])

-- The call on a buffer of n octets, all 95.
abbrev pub listing : List String → List ℕ → ℕ → Listing
listing ns book n = list_issuers (asking ns) someone book (replicate n 95)

-- The same for another applicant than `someone`.
abbrev pub listing_for : Applicant → List String → List ℕ → ℕ → Listing
listing_for who ns book n = list_issuers (asking ns) who book (replicate n 95)

abbrev pub ListsAgree : Type 0
ListsAgree =
    -- The whole case, with its count and octets and the octets after the list unchanged; a buffer one octet too short; anyone.
    (listing ("www.example.com" ∷ []) (book_of whole_book) 34 ≡ record { answer = Listed 2 32; buffer = (15 ∷ ca1) ++ ((15 ∷ ca2) ++ replicate 2 95) })
    × (listing ("www.example.com" ∷ "pay.example.com" ∷ []) (book_of whole_book) 16 ≡ record { answer = Listed 1 16; buffer = 15 ∷ ca2 })
    × (listing ("www.example.com" ∷ []) (book_of whole_book) 31 ≡ record { answer = ListRefused (NoRoom 32); buffer = replicate 31 95 })
    × (listing ("example.org" ∷ []) (book_of whole_book) 3 ≡ record { answer = Anyone; buffer = replicate 3 95 })
    -- The order is that of the restricted name with the lowest number.
    × (listing ("www.example.com" ∷ "pay.example.com" ∷ []) orders 33 ≡ record { answer = Listed 2 32; buffer = (15 ∷ ca2) ++ ((15 ∷ ca1) ++ replicate 1 95) })
    × (listing ("example.org" ∷ "pay.example.com" ∷ "www.example.com" ∷ []) orders 33
    ≡ record { answer = Listed 2 32; buffer = (15 ∷ ca1) ++ ((15 ∷ ca2) ++ replicate 1 95) })
    -- A critical record with an unknown tag for any name; the refusals of request and book.
    × (listing ("www.example.com" ∷ "*.bad.example.com" ∷ []) orders 3 ≡ record { answer = Listed 0 0; buffer = replicate 3 95 })
    × (listing [] (64 ∷ []) 3 ≡ record { answer = ListRefused (BadName (record { 0 = 0 })); buffer = replicate 3 95 })
    × (listing ("www.example.com" ∷ []) (64 ∷ []) 0 ≡ record { answer = ListRefused (BadRecord (record { 0 = 0 })); buffer = [] })
    × (listing ("www.example.com" ∷ []) (elsewhere "tb_s") 3 ≡ record { answer = ListRefused (BadRecord (record { 0 = 1 })); buffer = replicate 3 95 })
    -- The order of the checks: the book before the buffer. A record that grants, behind it one that makes the book too long, and no buffer.
    × (listing ("www.example.com" ∷ []) (book_of (caa "example.com" 0 "issue" "ca1.example.net" ∷ []) ++ of_octets 49152) 0
    ≡ record { answer = ListRefused BookTooLong; buffer = [] })
    -- The account and the method are checked after the request and before the book.
    × (listing_for nobody [] (64 ∷ []) 3 ≡ record { answer = ListRefused (BadName (record { 0 = 0 })); buffer = replicate 3 95 })
    × (listing_for nobody ("www.example.com" ∷ []) (64 ∷ []) 3 ≡ record { answer = ListRefused BadAccountOrMethod; buffer = replicate 3 95 })
    -- The same records for three applicants: one record grants, both do, and neither does. The last is an empty list, not anyone.
    × (listing ("www.example.com" ∷ []) limited 17 ≡ record { answer = Listed 1 16; buffer = (15 ∷ ca1) ++ replicate 1 95 })
    × (listing_for (with_account (text "https://a/2")) ("www.example.com" ∷ []) limited 33
    ≡ record { answer = Listed 2 32; buffer = (15 ∷ ca2) ++ ((15 ∷ ca1) ++ replicate 1 95) })
    × (listing_for (with_method (text "http-01")) ("www.example.com" ∷ []) limited 3 ≡ record { answer = Listed 0 0; buffer = replicate 3 95 })
    -- Aliases that don't end leave nobody, whether the name comes after another or alone.
    × (listing ("www.example.com" ∷ "pay.example.com" ∷ []) circular 3 ≡ record { answer = Listed 0 0; buffer = replicate 3 95 })
    × (listing ("pay.example.com" ∷ []) circular 3 ≡ record { answer = Listed 0 0; buffer = replicate 3 95 })
    -- An alias and a CAA record of one owner: found before the buffer is looked at, whether it is too short for the list (16 octets) or has room for it,
    -- and after a refused account and a record that is cut off.
    × (listing ("www.example.com" ∷ []) conflicting 3 ≡ record { answer = ListRefused (AliasConflict (record { 0 = 2 })); buffer = replicate 3 95 })
    × (listing_for nobody ("www.example.com" ∷ []) conflicting 3 ≡ record { answer = ListRefused BadAccountOrMethod; buffer = replicate 3 95 })
    × (listing ("www.example.com" ∷ []) (conflicting ++ (64 ∷ [])) 3 ≡ record { answer = ListRefused (BadRecord (record { 0 = 3 })); buffer = replicate 3 95 })
    × (listing ("www.example.com" ∷ []) conflicting 16 ≡ record { answer = ListRefused (AliasConflict (record { 0 = 2 })); buffer = replicate 16 95 })
