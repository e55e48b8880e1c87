-- Resource records (RFC 1035 section 3.2.1) without compression, and the records to decide by (the requirements' "book").
use Rattle.std.specs.Prelude.{ℕ, suc, ◌≤◌, ◌<◌, ◌^◌, Bool, true, false, cond, not, ◌&&◌, ◌||◌, List, [], ◌∷◌, ◌++◌, eqb, ltb, length, ◌≡◌, Option, None, Some}
use Rattle.spec_limits.specs.Limits.{max_book_octets, max_records}
use Rattle.spec_refusal.specs.declared.Refusal.{Refusal}
use Rattle.spec_refusal.specs.declared.Refusal.TheVariants.{BookTooLong, BadRecord, TooManyRecords, AliasConflict}
use Rattle.spec_octets.specs.Lists.{all, any, All}
use Rattle.spec_octets.specs.Octets.{is_letter_or_digit}
use Rattle.spec_octets.specs.Reader.{Reader, given, ◌>>=◌, octets, number, in_octets}
use Rattle.spec_octets.specs.Items.{Items, whole_items, item_fault, items}
use Rattle.spec_name.specs.Names.{Name, wire, name, same_name, GoodName}
use Rattle.spec_record.specs.Property.{property, Property, wire_property}

pub record Record : Type 0 where
  pub owner : Name
  pub type : ℕ
  pub class : ℕ
  pub ttl : ℕ
  pub rdata : List ℕ

-- RFC 1035 section 3.2.1: owner, type, class, time to live, data length, data.
abbrev pub wire_record : Record → List ℕ
wire_record r =
    wire r.owner ++ in_octets 2 r.type ++ in_octets 2 r.class ++ in_octets 4 r.ttl
    ++ in_octets 2 (length r.rdata) ++ r.rdata

-- "Class 1 with type 257 is a CAA record"
unfoldable pub is_caa : ℕ → ℕ → Bool
is_caa type class = eqb type 257 && eqb class 1

-- "Type 5, class 1": an alias, CNAME (RFC 1035 section 3.3.1).
unfoldable pub is_alias : ℕ → ℕ → Bool
is_alias type class = eqb type 5 && eqb class 1

-- The name that was read, if nothing is left after it.
abbrev pub filling : Option (Name × List ℕ) → Option Name
filling None = None
filling (Some (n, [])) = Some n
filling (Some (n, x ∷ s)) = None

-- The name that an alias stands for: one name that fills the data.
unfoldable pub target : List ℕ → Option Name
target d = filling (name d)

abbrev pub is_some : {A : Type 0} → Option A → Bool
is_some None = false
is_some (Some a) = true

-- Whether CAA data is well formed: it holds a property, and its tag has no other octets than letters and digits. RFC 8659 section 4.1: "Tags
-- MUST NOT contain any other characters"
abbrev pub is_caa_data : Option Property → Bool
is_caa_data None = false
is_caa_data (Some p) = all is_letter_or_digit p.tag

-- Whether data is well formed for its type and class, with a clause for each type that is checked. Other data may hold anything.
unfoldable pub is_laid_out : ℕ → ℕ → List ℕ → Bool
is_laid_out type class d = (not (is_caa type class) || is_caa_data (property d)) && (not (is_alias type class) || is_some (target d))

unfoldable pub resource_record : Reader Record
resource_record = do
  owner ← name
  type ← number 2
  class ← number 2
  ttl ← number 4
  n ← number 2
  d ← octets n
  given (is_laid_out type class d) (record { owner = owner; type = type; class = class; ttl = ttl; rdata = d })

unfoldable pub record_items : List ℕ → Items Record
record_items b = items resource_record max_records b

-- The records, numbered from 0 in their order; none if one is malformed or there are too many.
unfoldable pub records : List ℕ → List Record
records b = whole_items (record_items b)

-- Rows 5 to 7 of the requirements' table of refusals.
abbrev pub record_refusal : Items Record → Option Refusal
record_refusal i = item_fault (λ k. BadRecord (record { 0 = k })) TooManyRecords i

unfoldable pub layout_refusal : List ℕ → Option Refusal
layout_refusal b = cond (ltb max_book_octets (length b)) (Some BookTooLong) (record_refusal (record_items b))

-- The records between which there can be a conflict: CAA records and aliases.
abbrev pub counts : Record → Bool
counts r = is_caa r.type r.class || is_alias r.type r.class

-- Two such records of one owner, one of them an alias: "An owner with an alias and a CAA record, or two aliases"
abbrev pub clash : Record → Record → Bool
clash p q = (is_alias p.type p.class || is_alias q.type q.class) && same_name p.owner q.owner

unfoldable pub clashes : Record → List Record → Bool
clashes r before = counts r && any (λ p. counts p && clash r p) before

-- The number of the first record that clashes with one before it. The records rs are numbered from k, and `before` are those before them.
abbrev pub clash_from : ℕ → List Record → List Record → Option ℕ
clash_from k before [] = None
clash_from k before (r ∷ rs) = cond (clashes r before) (Some k) (clash_from (suc k) (r ∷ before) rs)

-- Row 12: "the later record's number, the lowest such"
abbrev pub conflict_at : Option ℕ → Option Refusal
conflict_at None = None
conflict_at (Some k) = Some (AliasConflict (record { 0 = k }))

unfoldable pub conflict_refusal : List Record → Option Refusal
conflict_refusal rs = conflict_at (clash_from 0 [] rs)

-- The first of two checks, each a refusal or none.
abbrev pub or_refusal : Option Refusal → Option Refusal → Option Refusal
or_refusal None second = second
or_refusal (Some r) second = Some r

-- The refusal of a book; none if it is accepted. Row 12 is "found after 6 and 7".
unfoldable pub book_refusal : List ℕ → Option Refusal
book_refusal b = or_refusal (layout_refusal b) (conflict_refusal (records b))

-- What data must be, by type and class, with a clause for each type that is checked. Type 257 and class 1: a property, its tag letters and digits.
-- Type 5 and class 1: one valid name.
abbrev pub GoodData : ℕ → ℕ → List ℕ → Type 0
GoodData type class d =
    (type ≡ 257 → class ≡ 1 → (p : Property) × (d ≡ wire_property p) × (1 ≤ length p.tag) × All (λ x. is_letter_or_digit x ≡ true) p.tag)
    × (type ≡ 5 → class ≡ 1 → (t : Name) × (d ≡ wire t) × GoodName t)

-- A valid record: each field fits its octets, and the data is what its type and class ask for.
abbrev pub GoodRecord : Record → Type 0
GoodRecord r =
    GoodName r.owner × (r.type < 2 ^ 16) × (r.class < 2 ^ 16) × (r.ttl < 2 ^ 32) × (length r.rdata < 2 ^ 16)
    × GoodData r.type r.class r.rdata
