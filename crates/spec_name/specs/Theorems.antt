-- What the definitions of this crate mean. Each statement is proved under its name in proofs/.
use Rattle.std.specs.Prelude.{ℕ, ◌<◌, ◌≡◌, ◌↔◌, ◌≢◌, true, false, List, [], ◌∷◌, ◌++◌, map, length, drop, get_or, Some}
use Rattle.spec_octets.specs.Octets.{text, lowered, equal_ignoring_case}
use Rattle.spec_name.specs.Names.{Name, wire, name, same_name, ancestors, GoodName}
use Rattle.spec_name.specs.NameEdges.{name_edges}

-- F.ISI.ARPA, the example of RFC 1035 section 4.1.4, octet by octet.
abbrev pub WireExample : Type 0
WireExample =
    wire (text "F" ∷ text "ISI" ∷ text "ARPA" ∷ []) ≡ 1 ∷ 70 ∷ 3 ∷ 73 ∷ 83 ∷ 73 ∷ 4 ∷ 65 ∷ 82 ∷ 80 ∷ 65 ∷ 0 ∷ []

-- A name is read exactly where the octets begin with its wire form, and the name is valid.
abbrev pub NameIsItsLabels : Type 0
NameIsItsLabels = (s : List ℕ) (n : Name) (rest : List ℕ) → (name s ≡ Some (n, rest)) ↔ ((s ≡ wire n ++ rest) × GoodName n)

-- Two names are equal exactly when their labels in lower case are the same lists; for valid names, exactly when their wire forms are equal
-- ignoring case. So no name equals a proper prefix or suffix of its labels.
abbrev pub WholeNames : Type 0
WholeNames =
    ((m n : Name) → (same_name m n ≡ true) ↔ (map lowered m ≡ map lowered n))
    × ((m n : Name) → GoodName m → GoodName n → same_name m n ≡ equal_ignoring_case (wire m) (wire n))
    × ((p n : Name) → p ≢ [] → (same_name (p ++ n) n ≡ false) × (same_name n (p ++ n) ≡ false))
    × ((p n : Name) → p ≢ [] → (same_name (n ++ p) n ≡ false) × (same_name n (n ++ p) ≡ false))

-- Each pair of the table is the same name or not, as the table says, and so is the pair of their wire forms.
abbrev pub NameEdges : Type 0
NameEdges =
    (map (λ r. same_name r.0 r.1) name_edges ≡ map (λ r. r.2) name_edges)
    × (map (λ r. equal_ignoring_case (wire r.0) (wire r.1)) name_edges ≡ map (λ r. r.2) name_edges)

-- The search looks at X without its first 0, 1, 2, .. labels, as long as one label is left.
abbrev pub AncestorsByLabelsTakenOff : Type 0
AncestorsByLabelsTakenOff =
    (x : Name) → (length (ancestors x) ≡ length x) × ((k : ℕ) → k < length x → get_or (ancestors x) k [] ≡ drop k x)
