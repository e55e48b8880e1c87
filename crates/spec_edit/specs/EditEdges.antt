-- What an edit can touch, in one table: both sides of each edge, worked out by hand from the requirements.
use Rattle.std.specs.Prelude.{ℕ, ◌≡◌, List, [], ◌∷◌, ◌++◌, map, replicate, Some}
use Prim.Native.Char.{code}
use Prim.Native.String.{String}
use Rattle.spec_refusal.specs.declared.Refusal.TheVariants.{RequestTooLong, BadName, BookTooLong, BadRecord, AliasConflict}
use Rattle.spec_octets.specs.Octets.{text}
use Rattle.spec_name.specs.Names.{Name, wire}
use Rattle.spec_record.specs.Records.{Record}
use Rattle.spec_record.specs.BookEdges.{of_octets}
use Rattle.spec_rule.specs.RelevantSet.{as_book}
use Rattle.spec_rule.specs.Edges.{dotted, caa, aliased, cname, letters, chain, below, root_issuing}
use Rattle.spec_rule.specs.CallEdges.{book_of, www, conflicting}
use Rattle.spec_edit.specs.declared.Edited.{Edited}
use Rattle.spec_edit.specs.declared.Edited.TheVariants.{MayBeLeft, Redo, Refused, BadOwner}
use Rattle.spec_edit.specs.Edits.{by_owner, edited}

-- What the call answers, and what the requirements state.
pub record EditEdge : Type 0 where
  pub answered : Edited
  pub stated : Edited

-- Octets as they come in.
abbrev pub call_edge : List ℕ → List ℕ → List ℕ → Edited → EditEdge
call_edge request book owner e = record { answered = edited request book owner; stated = e }

-- These names, records and owner, as they are read; and for www.example.com alone.
abbrev pub names_edge : List String → List Record → Name → Edited → EditEdge
names_edge ns book o e = record { answered = by_owner (as_book book) (map dotted ns) (Some o); stated = e }

abbrev pub edge : List Record → String → Edited → EditEdge
edge book o e = names_edge ("www.example.com" ∷ []) book (dotted o) e

abbrev pub root : Name
root = []

-- A record that grants nobody.
abbrev pub denying : String → Record
denying owner = caa owner 0 "issue" ";"

-- Nine aliases, one after the other, from this name: the first leads to a, the second to aa, the ninth to aaaaaaaaa. The target of alias k.
abbrev pub nine : String → List Record
nine owner = chain owner (code "a") 8

abbrev pub of_alias : ℕ → Name
of_alias k = letters (code "a") k

abbrev pub edit_edges : List EditEdge
edit_edges =
    -- X itself, its parent and the top label; not a name beside X, one below it, one that only ends like its parent, nor one of another top label.
    edge [] "www.example.com" Redo
    ∷ edge [] "example.com" Redo
    ∷ edge [] "com" Redo
    ∷ edge [] "pay.example.com" MayBeLeft
    ∷ edge [] "a.www.example.com" MayBeLeft
    ∷ edge [] "badexample.com" MayBeLeft
    ∷ edge [] "www.example.org" MayBeLeft
    ∷ edge [] "www.example" MayBeLeft
    -- "the root isn't counted as above", whether it has a CAA record or not. An alias of the root is none from X or from a name above it.
    ∷ names_edge ("www.example.com" ∷ []) [] root MayBeLeft
    ∷ names_edge ("com" ∷ []) (root_issuing ∷ []) root MayBeLeft
    ∷ edge (aliased root (dotted "web.example.org") ∷ []) "web.example.org" MayBeLeft
    -- Letter case is ignored, in the owner and in a target.
    ∷ edge [] "WWW.Example.COM" Redo
    ∷ names_edge ("Www.EXAMPLE.com" ∷ []) [] (dotted "eXample.com") Redo
    ∷ edge (cname "WWW.example.com" "Web.Example.ORG" ∷ []) "wEB.example.org" Redo
    -- It is the owner that counts, not its records: the same with a set that decides below it, and with none.
    ∷ edge (denying "www.example.com" ∷ denying "example.com" ∷ []) "com" Redo
    ∷ edge (denying "www.example.com" ∷ denying "pay.example.com" ∷ []) "pay.example.com" MayBeLeft
    -- The target of an alias of X; not the names above or below the target, nor another name.
    ∷ edge (cname "www.example.com" "web.example.org" ∷ []) "web.example.org" Redo
    ∷ edge (cname "www.example.com" "web.example.org" ∷ []) "example.org" MayBeLeft
    ∷ edge (cname "www.example.com" "web.example.org" ∷ []) "org" MayBeLeft
    ∷ edge (cname "www.example.com" "web.example.org" ∷ []) "a.web.example.org" MayBeLeft
    ∷ edge (cname "www.example.com" "web.example.org" ∷ []) "pay.example.com" MayBeLeft
    -- An alias that leads below X, or beside it; an alias of X to itself, and one of its parent.
    ∷ edge (cname "www.example.com" "a.www.example.com" ∷ []) "a.www.example.com" Redo
    ∷ edge (cname "www.example.com" "pay.example.com" ∷ []) "pay.example.com" Redo
    ∷ edge (cname "www.example.com" "www.example.com" ∷ []) "pay.example.com" MayBeLeft
    ∷ edge (cname "example.com" "web.example.org" ∷ []) "web.example.org" Redo
    ∷ edge (cname "com" "web.example.org" ∷ []) "web.example.org" Redo
    -- An alias of a name that is neither X nor above it: beside X, below it, above a target.
    ∷ edge (cname "pay.example.com" "web.example.org" ∷ []) "web.example.org" MayBeLeft
    ∷ edge (cname "a.www.example.com" "web.example.org" ∷ []) "web.example.org" MayBeLeft
    ∷ edge (cname "www.example.com" "web.example.org" ∷ cname "example.org" "a.example.net" ∷ []) "a.example.net" MayBeLeft
    -- "reached by the climb or not": an alias of the parent, above a set of X that decides; and above aliases of X that don't end.
    ∷ edge (denying "www.example.com" ∷ cname "example.com" "web.example.org" ∷ []) "web.example.org" Redo
    ∷ edge (cname "www.example.com" "www.example.com" ∷ cname "example.com" "web.example.org" ∷ []) "web.example.org" Redo
    -- The target of the 1st, the 2nd and the 8th alias; the 9th is not followed. From X, from its parent and from its top label.
    ∷ names_edge ("www.example.com" ∷ []) (nine "www.example.com") (of_alias 1) Redo
    ∷ names_edge ("www.example.com" ∷ []) (nine "www.example.com") (of_alias 2) Redo
    ∷ names_edge ("www.example.com" ∷ []) (nine "www.example.com") (of_alias 8) Redo
    ∷ names_edge ("www.example.com" ∷ []) (nine "www.example.com") (of_alias 9) MayBeLeft
    ∷ names_edge ("www.example.com" ∷ []) (nine "example.com") (of_alias 8) Redo
    ∷ names_edge ("www.example.com" ∷ []) (nine "example.com") (of_alias 9) MayBeLeft
    ∷ names_edge ("www.example.com" ∷ []) (nine "com") (of_alias 8) Redo
    ∷ names_edge ("www.example.com" ∷ []) (nine "com") (of_alias 9) MayBeLeft
    -- A chain to the root, and on from there.
    ∷ names_edge ("www.example.com" ∷ []) (aliased (dotted "www.example.com") root ∷ []) root Redo
    ∷ edge (aliased (dotted "www.example.com") root ∷ aliased root (dotted "web.example.org") ∷ []) "web.example.org" Redo
    -- For *.X the owner *.X is not looked at, and X and the names above it are.
    ∷ names_edge ("*.example.com" ∷ []) [] (dotted "*.example.com") MayBeLeft
    ∷ names_edge ("*.example.com" ∷ []) [] (dotted "example.com") Redo
    ∷ names_edge ("*.example.com" ∷ []) [] (dotted "com") Redo
    ∷ names_edge ("*.example.com" ∷ []) [] (dotted "www.example.com") MayBeLeft
    ∷ names_edge ("*.example.com" ∷ []) (cname "*.example.com" "web.example.org" ∷ []) (dotted "web.example.org") MayBeLeft
    ∷ edge [] "*.example.com" MayBeLeft
    -- Two names: the first is touched, the second, neither.
    ∷ names_edge ("www.example.com" ∷ "www.example.org" ∷ []) [] (dotted "com") Redo
    ∷ names_edge ("www.example.com" ∷ "www.example.org" ∷ []) [] (dotted "org") Redo
    ∷ names_edge ("www.example.com" ∷ "www.example.org" ∷ []) [] (dotted "net") MayBeLeft
    -- The call on octets: the targets of the 8th and the 9th alias.
    ∷ call_edge www (book_of (nine "example.com")) (wire (of_alias 8)) Redo
    ∷ call_edge www (book_of (nine "example.com")) (wire (of_alias 9)) MayBeLeft
    -- The root is an owner. An owner of 255 octets, the most that a name can have, and one of 256; labels of 63 and 64 octets.
    ∷ call_edge www [] (0 ∷ []) MayBeLeft
    ∷ call_edge www [] (wire (below 126)) MayBeLeft
    ∷ call_edge (wire (below 126)) [] (wire (below 126)) Redo
    ∷ call_edge www [] (wire (replicate 126 (text "a") ++ dotted "cc")) BadOwner
    ∷ call_edge www [] (wire (letters (code "a") 63)) MayBeLeft
    ∷ call_edge www [] (wire (letters (code "a") 64)) BadOwner
    -- No octet at all; cut off within a label, and before the closing zero; one octet after it; a second name; a compression pointer.
    ∷ call_edge www [] [] BadOwner
    ∷ call_edge www [] (3 ∷ text "co") BadOwner
    ∷ call_edge www [] (3 ∷ text "com") BadOwner
    ∷ call_edge www [] (wire (dotted "com") ++ (0 ∷ [])) BadOwner
    ∷ call_edge www [] (wire (dotted "org") ++ wire (dotted "net")) BadOwner
    ∷ call_edge www [] (192 ∷ 0 ∷ []) BadOwner
    -- The order of the checks: request, book, owner. Where one breaks its rule, so do all that are checked after it.
    ∷ call_edge (of_octets 16385) (64 ∷ []) [] (Refused RequestTooLong)
    ∷ call_edge [] (64 ∷ []) [] (Refused (BadName (record { 0 = 0 })))
    ∷ call_edge www (of_octets 49153) [] (Refused BookTooLong)
    ∷ call_edge www (64 ∷ []) [] (Refused (BadRecord (record { 0 = 0 })))
    ∷ call_edge www conflicting [] (Refused (AliasConflict (record { 0 = 2 })))
    -- Where the owner is a valid name, the same refusals.
    ∷ call_edge [] [] (wire (dotted "com")) (Refused (BadName (record { 0 = 0 })))
    ∷ call_edge www conflicting (wire (dotted "net")) (Refused (AliasConflict (record { 0 = 2 })))
    ∷ []

abbrev pub EditsAgree : Type 0
EditsAgree = map (λ e. e.answered) edit_edges ≡ map (λ e. e.stated) edit_edges
