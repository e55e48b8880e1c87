-- RFC 8659 section 3: the Relevant RRset of a name (the requirements' "relevant set").
use Rattle.std.specs.Prelude.{ℕ, suc, List, [], ◌∷◌, map, Option, None, Some}
use Rattle.spec_limits.specs.Limits.{max_aliases}
use Rattle.spec_octets.specs.Lists.{select}
use Rattle.spec_name.specs.Names.{Name, same_name, ancestors}
use Rattle.spec_record.specs.Property.{Property, property}
use Rattle.spec_record.specs.Records.{Record, is_caa}
use Rattle.spec_record.specs.Kinds.{of_kind_from}
use Rattle.spec_rule.specs.Aliases.{Alias, aliases, aliases_of, followed}

-- A CAA record, with its number among all records of the book.
pub record CaaRecord : Type 0 where
  pub number : ℕ
  pub owner : Name
  pub property : Property

abbrev pub as_caa : ℕ → Name → Property → CaaRecord
as_caa k owner p = record { number = k; owner = owner; property = p }

abbrev pub caa_records_from : ℕ → List Record → List CaaRecord
caa_records_from k rs = of_kind_from is_caa property as_caa k rs

abbrev pub caa_records : List Record → List CaaRecord
caa_records rs = caa_records_from 0 rs

-- What counts of the records of a book.
pub record Book : Type 0 where
  pub caa : List CaaRecord
  pub aliases : List Alias

abbrev pub as_book : List Record → Book
as_book rs = record { caa = caa_records rs; aliases = aliases rs }

-- The result of one lookup: RFC 8659's CAA(X), empty or not.
pub data Lookup : Type 0 where
  empty : Lookup
  found : List CaaRecord → Lookup
  -- There are too many aliases to follow: the number of the first.
  endless : ℕ → Lookup

abbrev pub as_lookup : List CaaRecord → Lookup
as_lookup [] = empty
as_lookup (r ∷ rs) = found (r ∷ rs)

-- All CAA records with that owner. An asterisk in an owner is an ordinary label; no records are synthesized from it.
abbrev pub caa_at : List CaaRecord → Name → List CaaRecord
caa_at rs x = select (λ r. same_name r.owner x) rs

-- The CAA records of the name at which following ends. Without an end, the first of these aliases, those of the name looked up, is reported.
abbrev pub looked_up : List CaaRecord → List Alias → Option Name → Lookup
looked_up rs al (Some y) = as_lookup (caa_at rs y)
looked_up rs [] None = empty
looked_up rs (a ∷ al) None = endless a.number

-- RFC 8659 section 3, CAA(X), with aliases followed. The end of the aliases may be any name, the root too.
unfoldable pub lookup : Book → Name → Lookup
lookup book x = looked_up book.caa (aliases_of book.aliases x) (followed max_aliases book.aliases x)

abbrev pub first_found : List Lookup → Lookup
first_found [] = empty
first_found (empty ∷ ls) = first_found ls
first_found (found rs ∷ ls) = found rs
first_found (endless r ∷ ls) = endless r

-- RFC 8659 section 3, RelevantCAASet(X): what is found at the first of X, its parent, .. that has any CAA records, by its aliases or without. The
-- names above the end of an alias are not looked at.
unfoldable pub relevant_set : Book → Name → Lookup
relevant_set book x = first_found (map (lookup book) (ancestors x))

-- How many lookups are empty before the first that is not.
abbrev pub empty_before : List Lookup → ℕ
empty_before [] = 0
empty_before (empty ∷ ls) = suc (empty_before ls)
empty_before (found rs ∷ ls) = 0
empty_before (endless r ∷ ls) = 0

-- How many labels are taken off X to reach the name whose lookup is the relevant set: 0 at X itself. Where aliases were followed, this is the
-- name that they start from.
unfoldable pub labels_off : Book → Name → ℕ
labels_off book x = empty_before (map (lookup book) (ancestors x))
