-- What the definitions of this crate mean, in terms of the rule (spec_rule). Each statement is proved under its name in proofs/.
use Rattle.std.specs.Prelude.{ℕ, zero, suc, ◌*◌, ◌≤◌, ◌<◌, ◌≡◌, ◌↔◌, ◌⊎◌, Bool, true, false, List, [], ◌∷◌, map, length, get_or, None, Some, Option, slice_get}
use Rattle.spec_limits.specs.Limits.{max_records}
use Rattle.spec_refusal.specs.declared.RecordNo.{RecordNo}
use Rattle.spec_octets.specs.Lists.{any, select}
use Rattle.spec_octets.specs.Octets.{same, lowered, equal_ignoring_case}
use Rattle.spec_name.specs.Names.{Name, wire, GoodName}
use Rattle.spec_record.specs.declared.PropertyTag.{PropertyTag}
use Rattle.spec_record.specs.declared.PropertyTag.TheVariants.{Issue, IssueWild, Unknown}
use Rattle.spec_record.specs.Property.{Property, property, tag_of, is_critical}
use Rattle.spec_record.specs.Records.{Record, is_caa, is_alias, records, book_refusal}
use Rattle.spec_applicant.specs.Applicant.{Applicant}
use Rattle.spec_rule.specs.RelevantSet.{CaaRecord, as_book, Lookup, empty, found, endless, lookup, relevant_set, labels_off}
use Rattle.spec_rule.specs.Authorizations.{authorization_from}
use Rattle.book_places.specs.Table.{tabled, room_for, table_of, owner_at, data_at, is_caa_at, is_alias_at}
use Rattle.book_places.specs.Keys.{key_of}
use Rattle.book_places.specs.Chains.{chains_of}
use Rattle.book_places.specs.Sets.{is_owned_of, owned_of, owned_from, first_of, looked_up_at, nearest_record, labels_off_at, set_at, data_has_tag, data_is_unknown_critical, data_grants, set_grants}
use Rattle.book_places.specs.Onward.{onward_of}
use Rattle.book_places.specs.declared.Kind.{Kind}
use Rattle.book_places.specs.NameAuthorizations.{question_number, set_authorization, by_set, name_authorization, answer_to, set_grantees, meaning}
use Rattle.book_places.specs.declared.Governing.{Governing}
use Rattle.book_places.specs.declared.NameAuthorization.TheVariants.{Forbidden, Governed, Unresolved}

-- Two names that are equal, letter case ignored, have the same key; and every key is an index of `heads`.
abbrev pub SameTextSameKey : Type 0
SameTextSameKey = ((a b : List ℕ) → equal_ignoring_case a b ≡ true → key_of a ≡ key_of b) × ((x : List ℕ) → key_of x < max_records)

-- Row i of a table describes the record r: its owner in wire form, its data, and whether it is a CAA record or an alias.
pub record RowTells (book table : List ℕ) (i : ℕ) (r : Record) : Type 0 where
  pub owner : owner_at book table i ≡ wire r.owner
  pub rdata : data_at book table i ≡ r.rdata
  pub caa : is_caa_at table i ≡ is_caa r.type r.class
  pub alias : is_alias_at table i ≡ is_alias r.type r.class

-- Row i of a book's table describes record i. This holds for any octets, accepted or not.
abbrev pub TableTells : Type 0
TableTells = (book : List ℕ) (i : ℕ) (r : Record) → slice_get (tabled book) i ≡ Some r → RowTells book (table_of book) i r

-- There is room for every record of a book that gets a row, and never for more than `max_records`.
abbrev pub RoomEnough : Type 0
RoomEnough = (book : List ℕ) → (length (tabled book) ≤ room_for book) × (room_for book ≤ max_records)

-- The table has six numbers for each record that there is room for, and at most `max_records` records get a row.
abbrev pub TableFits : Type 0
TableFits = (book : List ℕ) → (length (table_of book) ≡ 6 * room_for book) × (length (tabled book) ≤ max_records)

-- There is a link for each record that there is room for, and `max_records` heads, one for each key.
abbrev pub ChainsFit : Type 0
ChainsFit = (book : List ℕ) → (length (chains_of book).links ≡ room_for book) × (length (chains_of book).heads ≡ max_records)

-- n numbers in a row, from k on.
abbrev pub numbers_from : ℕ → ℕ → List ℕ
numbers_from k zero = []
numbers_from k (suc n) = k ∷ numbers_from (suc k) n

-- The chain of the key of x has all records of a kind with the owner x, each once and in the book's order.
abbrev pub ChainsSkipNothing : Type 0
ChainsSkipNothing =
    (kind : Kind) (book x : List ℕ) →
    owned_of kind book (table_of book) (chains_of book).links x (get_or (chains_of book).heads (key_of x) (length (chains_of book).links))
    ≡ select (is_owned_of kind book (table_of book) x) (numbers_from 0 (length (tabled book)))

-- Naming a set by its first record loses nothing: from there the chain leads to all other records of the set. This holds for any table and links.
abbrev pub SetByItsFirst : Type 0
SetByItsFirst =
    (book table links x : List ℕ) (i : ℕ) (r : RecordNo) → first_of (owned_from book table links x i) ≡ Some r →
    set_at book table links r.0 ≡ owned_from book table links x i

-- The CAA records that a lookup by the rule finds, their numbers, and the number of the first.
abbrev pub records_in : Lookup → List CaaRecord
records_in empty = []
records_in (found cs) = cs
records_in (endless r) = []

abbrev pub numbers_of : List CaaRecord → List ℕ
numbers_of cs = map (λ c. c.number) cs

abbrev pub first_number : List CaaRecord → Option RecordNo
first_number [] = None
first_number (c ∷ cs) = Some (record { 0 = c.number })

-- The record that the rule reports: the first CAA record, or the first alias where following them does not end.
abbrev pub first_in : Lookup → Option RecordNo
first_in empty = None
first_in (found cs) = first_number cs
first_in (endless r) = Some (record { 0 = r })

abbrev pub is_endless : Lookup → Bool
is_endless empty = false
is_endless (found cs) = false
is_endless (endless r) = true

-- The answer o, found by offset, is what the rule finds: o is the rule's first record; it is an alias exactly when the rule reports an alias; otherwise
-- the set named by it has exactly the rule's records.
pub record Finds (book table links : List ℕ) (l : Lookup) (o : Option RecordNo) : Type 0 where
  pub first : o ≡ first_in l
  pub alias : (r : RecordNo) → o ≡ Some r → is_alias_at table r.0 ≡ is_endless l
  pub whole : (r : RecordNo) → o ≡ Some r → is_endless l ≡ false → set_at book table links r.0 ≡ numbers_of (records_in l)

-- For an accepted book, a lookup by table and chains finds what the rule's lookup of that name finds.
abbrev pub LookByOffset : Type 0
LookByOffset =
    (book : List ℕ) (x : Name) → book_refusal book ≡ None → GoodName x →
    Finds book (table_of book) (chains_of book).links (lookup (as_book (records book)) x)
    (looked_up_at book (table_of book) (chains_of book).links (chains_of book).heads (onward_of book) (wire x))

-- For an accepted book, the climb by table and chains finds the relevant set of the name.
abbrev pub ClimbByOffset : Type 0
ClimbByOffset =
    (book : List ℕ) (x : Name) → book_refusal book ≡ None → GoodName x →
    Finds book (table_of book) (chains_of book).links (relevant_set (as_book (records book)) x)
    (nearest_record book (table_of book) (chains_of book).links (chains_of book).heads (onward_of book) (wire x))

-- For an accepted book, the climb by table and chains takes off as many labels as the rule. This holds where nothing is found, too.
abbrev pub LabelsOffByOffset : Type 0
LabelsOffByOffset =
    (book : List ℕ) (x : Name) → book_refusal book ≡ None → GoodName x →
    labels_off_at book (table_of book) (chains_of book).links (chains_of book).heads (onward_of book) (wire x) ≡ labels_off (as_book (records book)) x

-- The tests on CAA data hold exactly when the property that is read from the data is so. Malformed data passes none of them.
abbrev pub TestsOfData : Type 0
TestsOfData =
    (d : List ℕ) →
    ((p : Property) → property d ≡ Some p →
    ((tag : PropertyTag) → (data_has_tag tag d ≡ true) ↔ (tag_of p.tag ≡ tag))
    × ((data_is_unknown_critical d ≡ true) ↔ ((is_critical p ≡ true) × (tag_of p.tag ≡ Unknown))))
    × (property d ≡ None →
    ((tag : PropertyTag) → data_has_tag tag d ≡ false) × (data_is_unknown_critical d ≡ false) × ((who : Applicant) (issuer : List ℕ) → data_grants who issuer d ≡ false))

-- For an accepted book, the answer about X or *.X by table and chains is the rule's answer. They agree in the kind of answer, in the number of the
-- record that it names, and in the issuers that the governing records grant.
abbrev pub AuthorizationByOffset : Type 0
AuthorizationByOffset =
    (who : Applicant) (book : List ℕ) (x : Name) (wildcard : Bool) → book_refusal book ≡ None → GoodName x →
    meaning who book (table_of book) (chains_of book).links
    (name_authorization book (table_of book) (chains_of book).links (chains_of book).heads (onward_of book) (wire x) wildcard)
    ≡ authorization_from who wildcard (relevant_set (as_book (records book)) x)

-- The same for a lookup of X alone, without the climb.
abbrev pub LookAuthorizationByOffset : Type 0
LookAuthorizationByOffset =
    (who : Applicant) (book : List ℕ) (x : Name) (wildcard : Bool) → book_refusal book ≡ None → GoodName x →
    meaning who book (table_of book) (chains_of book).links
    (by_set book (table_of book) (chains_of book).links wildcard
    (looked_up_at book (table_of book) (chains_of book).links (chains_of book).heads (onward_of book) (wire x)))
    ≡ authorization_from who wildcard (lookup (as_book (records book)) x)

-- The number of a question says which set is asked, and whether for X or for *.X. This holds for any table and links.
abbrev pub QuestionByNumber : Type 0
QuestionByNumber =
    (book table links : List ℕ) (set : RecordNo) (wildcard : Bool) → set.0 < 32768 →
    answer_to book table links (question_number set wildcard) ≡ set_authorization book table links wildcard set

-- The record numbers in an answer are indices of `links`, and only issue or issuewild records govern. This holds for any table, chains and name.
abbrev pub AuthorizationBounds : Type 0
AuthorizationBounds =
    (book table links heads onward x : List ℕ) (wildcard : Bool) →
    ((g : Governing) → name_authorization book table links heads onward x wildcard ≡ Governed g →
    (g.set.0 < length links) × (g.first.0 < length links) × ((g.tag ≡ Issue) ⊎ (g.tag ≡ IssueWild)))
    × ((r : RecordNo) → name_authorization book table links heads onward x wildcard ≡ Forbidden r → r.0 < length links)
    × ((r : RecordNo) → name_authorization book table links heads onward x wildcard ≡ Unresolved r → r.0 < length links)

-- A set grants an issuer exactly when the issuer is one of the set's grantees, letter case ignored. This holds for any table and links.
abbrev pub SetGrants : Type 0
SetGrants =
    (who : Applicant) (book table links issuer : List ℕ) (tag : PropertyTag) (first : ℕ) →
    set_grants who tag issuer book table links first ≡ any (same (lowered issuer)) (set_grantees who book table links tag first)
