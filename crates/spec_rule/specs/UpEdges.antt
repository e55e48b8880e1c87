-- How far up: verdicts with the labels taken off X, each as the requirements state it. The first number is the name's, the second the
-- record's, the third the labels taken off.
use Prim.Native.String.{String}
use Rattle.std.specs.Prelude.{◌≡◌, List, [], ◌∷◌, map}
use Rattle.spec_octets.specs.Octets.{text}
use Rattle.spec_name.specs.Names.{Name}
use Rattle.spec_record.specs.Records.{Record}
use Rattle.spec_applicant.specs.AdmissionEdges.{someone}
use Rattle.spec_rule.specs.declared.Judgement.{Judgement}
use Rattle.spec_rule.specs.declared.Judgement.TheVariants.{Permitted, UnknownCritical, NotGranted, TooManyAliases}
use Rattle.spec_rule.specs.RelevantSet.{as_book}
use Rattle.spec_rule.specs.Verdicts.{decision, denial, verdict}
use Rattle.spec_rule.specs.Edges.{dotted, caa, cname, chain, below, ca1}

-- A record that grants nobody, and one that grants ca1, who asks in every row.
abbrev pub denying : String → Record
denying owner = caa owner 0 "issue" ";"

abbrev pub granting : String → Record
granting owner = caa owner 0 "issue" "ca1.example.net"

abbrev pub critical : String → Record
critical owner = caa owner 128 "tbs" "Unknown"

-- What the definitions say, and what the requirements state.
pub record UpEdge : Type 0 where
  pub ruled : Judgement
  pub stated : Judgement

abbrev pub names_edge : List Record → List Name → Judgement → UpEdge
names_edge book ns j = record { ruled = verdict ca1 (map (decision someone (as_book book)) ns); stated = j }

abbrev pub up_edge : List Record → List String → Judgement → UpEdge
up_edge book ns j = names_edge book (map dotted ns) j

abbrev pub up_edges : List UpEdge
up_edges =
    -- The set at X, at its parent and at the name above that.
    up_edge (denying "www.example.com" ∷ []) ("www.example.com" ∷ []) (NotGranted (denial 0 0 0))
    ∷ up_edge (denying "example.com" ∷ []) ("www.example.com" ∷ []) (NotGranted (denial 0 0 1))
    ∷ up_edge (denying "com" ∷ []) ("www.example.com" ∷ []) (NotGranted (denial 0 0 2))
    -- Of two sets the nearest counts, whatever the order of the records.
    ∷ up_edge (denying "com" ∷ denying "example.com" ∷ []) ("www.example.com" ∷ []) (NotGranted (denial 0 1 1))
    ∷ up_edge (denying "www.example.com" ∷ denying "example.com" ∷ []) ("www.example.com" ∷ []) (NotGranted (denial 0 0 0))
    -- For *.X the labels of X are counted, from X on. The owner *.X is no name that the search looks at.
    ∷ up_edge (denying "example.com" ∷ []) ("*.example.com" ∷ []) (NotGranted (denial 0 0 0))
    ∷ up_edge (denying "example.com" ∷ []) ("*.www.example.com" ∷ []) (NotGranted (denial 0 0 1))
    ∷ up_edge (denying "*.example.com" ∷ denying "com" ∷ []) ("*.example.com" ∷ []) (NotGranted (denial 0 1 1))
    ∷ up_edge (critical "example.com" ∷ []) ("*.example.com" ∷ []) (UnknownCritical (denial 0 0 0))
    -- An alias of X: 0, whether its target is two labels above X, or below it, or has more labels.
    ∷ up_edge (cname "a.b.example.com" "example.com" ∷ denying "example.com" ∷ []) ("a.b.example.com" ∷ []) (NotGranted (denial 0 1 0))
    ∷ up_edge (cname "example.com" "a.b.example.com" ∷ denying "a.b.example.com" ∷ []) ("example.com" ∷ []) (NotGranted (denial 0 1 0))
    ∷ up_edge (cname "example.com" "a.b.c.example.org" ∷ critical "a.b.c.example.org" ∷ []) ("*.example.com" ∷ []) (UnknownCritical (denial 0 1 0))
    -- Two aliases of X, one after the other: still 0.
    ∷ up_edge (cname "www.example.com" "b.example.org" ∷ cname "b.example.org" "org" ∷ denying "org" ∷ []) ("www.example.com" ∷ []) (NotGranted (denial 0 2 0))
    -- An alias of the parent: 1. An alias that leads to no CAA record is passed, at X and above it, and its name is one label like any other.
    ∷ up_edge (cname "example.com" "example.org" ∷ denying "example.org" ∷ []) ("www.example.com" ∷ []) (NotGranted (denial 0 1 1))
    ∷ up_edge (cname "example.com" "www.example.com" ∷ denying "a.example.com" ∷ denying "com" ∷ []) ("a.b.example.com" ∷ []) (NotGranted (denial 0 2 3))
    ∷ up_edge (cname "www.example.com" "web.example.org" ∷ denying "example.com" ∷ []) ("www.example.com" ∷ []) (NotGranted (denial 0 1 1))
    -- Too many aliases: those of X, of its parent, and of the parent of the X of *.X.
    ∷ up_edge (cname "www.example.com" "www.example.com" ∷ []) ("www.example.com" ∷ []) (TooManyAliases (denial 0 0 0))
    ∷ up_edge (cname "example.com" "example.com" ∷ []) ("www.example.com" ∷ []) (TooManyAliases (denial 0 0 1))
    ∷ up_edge (denying "com" ∷ cname "example.com" "example.com" ∷ []) ("*.www.example.com" ∷ []) (TooManyAliases (denial 0 1 1))
    -- Nine aliases from the parent, at names of one label each.
    ∷ up_edge (chain "x.y" 97 8) ("w.x.y" ∷ []) (TooManyAliases (denial 0 0 1))
    -- A critical record with an unknown tag at X, and behind a record that governs at the parent.
    ∷ up_edge (critical "www.example.com" ∷ []) ("www.example.com" ∷ []) (UnknownCritical (denial 0 0 0))
    ∷ up_edge (denying "example.com" ∷ critical "example.com" ∷ []) ("www.example.com" ∷ []) (UnknownCritical (denial 0 1 1))
    -- A set of only iodef decides at X, and nothing is told: the set above it is not looked at.
    ∷ up_edge (caa "www.example.com" 0 "iodef" "mailto:a@example.com" ∷ denying "example.com" ∷ []) ("www.example.com" ∷ []) Permitted
    -- The number is that of the name denied: with name 0 permitted by a set two labels up, by its own set, and by none.
    ∷ up_edge (granting "example.com" ∷ denying "example.net" ∷ []) ("a.b.example.com" ∷ "example.net" ∷ []) (NotGranted (denial 1 1 0))
    ∷ up_edge (granting "www.example.com" ∷ denying "com" ∷ []) ("www.example.com" ∷ "pay.example.com" ∷ []) (NotGranted (denial 1 1 2))
    ∷ up_edge (critical "example.net" ∷ []) ("www.example.com" ∷ "www.example.net" ∷ "net" ∷ []) (UnknownCritical (denial 1 0 1))
    -- A name of 127 labels, the most that a name can have, and *.X with an X of 126: the set, or the alias, at the last label.
    ∷ names_edge (denying "c" ∷ []) (below 126 ∷ []) (NotGranted (denial 0 0 126))
    ∷ names_edge (denying "c" ∷ []) ((text "*" ∷ below 125) ∷ []) (NotGranted (denial 0 0 125))
    ∷ names_edge (cname "c" "c" ∷ []) (below 126 ∷ []) (TooManyAliases (denial 0 0 126))
    ∷ []

abbrev pub UpsAgree : Type 0
UpsAgree = map (λ e. e.ruled) up_edges ≡ map (λ e. e.stated) up_edges
