-- What the definitions of this crate mean. Each statement is proved under its name in proofs/.
use Rattle.std.specs.Prelude.{ℕ, ◌≤◌, ◌<◌, ◌≡◌, ◌↔◌, ◌≢◌, ◌⊎◌, Bool, true, List, [], ◌∷◌, ◌++◌, map, length, Option, None, Some}
use Rattle.spec_limits.specs.Limits.{max_book_octets, max_records}
use Rattle.spec_refusal.specs.Refusal.{number}
use Rattle.spec_refusal.specs.declared.Refusal.{Refusal}
use Rattle.spec_refusal.specs.declared.Refusal.TheVariants.{BookTooLong, BadRecord, TooManyRecords, AliasConflict}
use Rattle.spec_octets.specs.Lists.{All, Any, flatten}
use Rattle.spec_octets.specs.Octets.{Octets, text, lowered}
use Rattle.spec_octets.specs.Items.{BrokenAt, Beyond}
use Rattle.spec_octets.specs.Theorems.{Reads}
use Rattle.spec_name.specs.Names.{Name, wire, GoodName}
use Rattle.spec_record.specs.declared.PropertyTag.TheVariants.{Issue, IssueWild, Iodef, Unknown}
use Rattle.spec_record.specs.Property.{Property, wire_property, property, is_critical, tag_of}
use Rattle.spec_record.specs.Kinds.{of_kind_from, OfKind}
use Rattle.spec_record.specs.BookEdges.{book_edges}
use Rattle.spec_record.specs.Records.{Record, wire_record, is_caa, is_alias, target, resource_record, records, book_refusal, GoodRecord}

-- Data holds a property exactly when it is the wire form of that property and the tag is not empty.
abbrev pub PropertyIsItsParts : Type 0
PropertyIsItsParts = (d : List ℕ) (p : Property) → (property d ≡ Some p) ↔ ((d ≡ wire_property p) × (1 ≤ length p.tag))

-- A property is critical exactly when its flags are 128 to 255.
abbrev pub CriticalBit : Type 0
CriticalBit = (p : Property) → p.flags < 256 → (is_critical p ≡ true) ↔ (128 ≤ p.flags)

-- The three known tags, in upper or lower case.
abbrev pub KnownTags : Type 0
KnownTags =
    (t : List ℕ) →
    ((tag_of t ≡ Issue) ↔ (lowered t ≡ text "issue")) × ((tag_of t ≡ IssueWild) ↔ (lowered t ≡ text "issuewild"))
    × ((tag_of t ≡ Iodef) ↔ (lowered t ≡ text "iodef"))

-- Every other tag is unknown.
abbrev pub UnknownTags : Type 0
UnknownTags =
    (t : List ℕ) → (tag_of t ≡ Unknown) ↔ ((lowered t ≢ text "issue") × (lowered t ≢ text "issuewild") × (lowered t ≢ text "iodef"))

-- Data holds the target of an alias exactly when it is the wire form of that name, without any other octet, and the name is valid.
abbrev pub TargetIsItsName : Type 0
TargetIsItsName = (d : List ℕ) (t : Name) → (target d ≡ Some t) ↔ ((d ≡ wire t) × GoodName t)

-- A record octet by octet: owner; type 257, class 1, time to live 3600, data length 22; flags 128, tag length 5, tag and value.
abbrev pub RecordExample : Type 0
RecordExample =
    wire_record (record {
      owner = text "example" ∷ text "com" ∷ [];
      type = 257;
      class = 1;
      ttl = 3600;
      rdata = wire_property (record { flags = 128; tag = text "issue"; value = text "ca1.example.net" });
    })
    ≡ (7 ∷ text "example") ++ (3 ∷ text "com") ++ (0 ∷ 1 ∷ 1 ∷ 0 ∷ 1 ∷ 0 ∷ 0 ∷ 14 ∷ 16 ∷ 0 ∷ 22 ∷ 128 ∷ 5 ∷ []) ++ text "issue"
    ++ text "ca1.example.net"

abbrev pub RecordIsItsFields : Type 0
RecordIsItsFields = Reads resource_record wire_record GoodRecord

-- Where the test passes exactly that type and class, the reader finds what data holds, and all data of the kind holds something: these are the
-- records of that kind.
abbrev pub KindRecords : Type 1
KindRecords =
    (A B : Type 0) (type class : ℕ) (is_of : ℕ → ℕ → Bool) (read : List ℕ → Option A) (Holds : List ℕ → A → Type 0) (made : ℕ → Name → A → B) →
    ((t c : ℕ) → (is_of t c ≡ true) ↔ ((t ≡ type) × (c ≡ class))) → ((d : List ℕ) (a : A) → (read d ≡ Some a) ↔ Holds d a) →
    (k : ℕ) (rs : List Record) → All (λ r. r.type ≡ type → r.class ≡ class → (a : A) × Holds r.rdata a) rs →
    OfKind type class Holds made k rs (of_kind_from is_of read made k rs)

-- Records of type 1, CAA, alias, type 257 of class 3, CAA, alias: the numbers of the CAA records, and of the aliases with their owners and targets.
abbrev pub plain : ℕ → ℕ → List ℕ → Record
plain type class d = record { owner = text "a" ∷ []; type = type; class = class; ttl = 0; rdata = d }

abbrev pub mixed : List Record
mixed =
    plain 1 1 []
    ∷ plain 257 1 (0 ∷ 1 ∷ text "t")
    ∷ plain 5 1 (1 ∷ 98 ∷ 0 ∷ [])
    ∷ plain 257 3 (0 ∷ 1 ∷ text "t")
    ∷ plain 257 1 (0 ∷ 1 ∷ text "t")
    ∷ plain 5 1 (0 ∷ [])
    ∷ []

abbrev pub KindExample : Type 0
KindExample =
    (of_kind_from is_caa property (λ k owner p. k) 0 mixed ≡ 1 ∷ 4 ∷ [])
    × (of_kind_from {B = ℕ × Name × Name} is_alias target (λ k owner t. (k, owner, t)) 0 mixed ≡ (2, text "a" ∷ [], text "b" ∷ []) ∷ (5, text "a" ∷ [], []) ∷ [])

-- A CAA record, and an alias.
abbrev pub IsCaa : Record → Type 0
IsCaa r = (r.type ≡ 257) × (r.class ≡ 1)

abbrev pub IsAlias : Record → Type 0
IsAlias r = (r.type ≡ 5) × (r.class ≡ 1)

-- Two records of one owner, the whole name ignoring case: an alias and a CAA record, or two aliases.
abbrev pub Clash : Record → Record → Type 0
Clash p q =
    (map lowered p.owner ≡ map lowered q.owner) × ((IsAlias p × IsCaa q) ⊎ (IsCaa p × IsAlias q) ⊎ (IsAlias p × IsAlias q))

-- Record k of rs clashes with a record before it.
abbrev pub ClashAt : List Record → ℕ → Type 0
ClashAt rs k =
    (before : List Record) × (r : Record) × (after : List Record) × (rs ≡ before ++ (r ∷ after)) × (length before ≡ k) × Any (Clash r) before

-- A book is accepted with the records rs exactly when its octets are the wire forms of rs, one after the other, with at most 1,024 valid
-- records and at most 49,152 octets, and no record clashes with one before it.
abbrev pub BookIsItsRecords : Type 0
BookIsItsRecords =
    (b : List ℕ) → Octets b → (rs : List Record) →
    ((book_refusal b ≡ None) × (records b ≡ rs))
    ↔ ((b ≡ flatten (map wire_record rs)) × All GoodRecord rs × (length rs ≤ max_records) × (length b ≤ max_book_octets)
    × ((k : ℕ) → ClashAt rs k → ⊥))

-- The rows of the requirements' table, each with its condition and its place, stated without the reader.
abbrev pub Row5 : List ℕ → Type 0
Row5 b = max_book_octets < length b

abbrev pub Row6 : List ℕ → ℕ → Type 0
Row6 b k = (k < max_records) × BrokenAt wire_record GoodRecord b k

abbrev pub Row7 : List ℕ → Type 0
Row7 b = Beyond wire_record GoodRecord max_records b

-- The octets are valid records, not too many, and record k is the first that clashes with one before it.
abbrev pub Row12 : List ℕ → ℕ → Type 0
Row12 b k =
    (rs : List Record) × (b ≡ flatten (map wire_record rs)) × All GoodRecord rs × (length rs ≤ max_records) × ClashAt rs k
    × ((j : ℕ) → j < k → ClashAt rs j → ⊥)

-- The same by refusal: the row of r holds of the book.
abbrev pub BookRow : List ℕ → Refusal → Type 0
BookRow b r =
    ((r ≡ BookTooLong) × Row5 b) ⊎ ((k : ℕ) × (r ≡ BadRecord (record { 0 = k })) × Row6 b k) ⊎ ((r ≡ TooManyRecords) × Row7 b)
    ⊎ ((k : ℕ) × (r ≡ AliasConflict (record { 0 = k })) × Row12 b k)

-- Row 5 is checked first. No two of rows 6, 7 and 12 hold together.
abbrev pub BookRefusals : Type 0
BookRefusals =
    (b : List ℕ) → Octets b →
    ((book_refusal b ≡ Some BookTooLong) ↔ Row5 b)
    × ((k : ℕ) → (book_refusal b ≡ Some (BadRecord (record { 0 = k }))) ↔ ((length b ≤ max_book_octets) × Row6 b k))
    × ((book_refusal b ≡ Some TooManyRecords) ↔ ((length b ≤ max_book_octets) × Row7 b))
    × ((k : ℕ) → (book_refusal b ≡ Some (AliasConflict (record { 0 = k }))) ↔ ((length b ≤ max_book_octets) × Row12 b k))
    × ((r : Refusal) → book_refusal b ≡ Some r → ((5 ≤ number r) × (number r ≤ 7)) ⊎ (number r ≡ 12))

-- The table BookEdges.antt.
abbrev pub BookEdges : Type 0
BookEdges = map (λ e. book_refusal e.0) book_edges ≡ map (λ e. e.1) book_edges
