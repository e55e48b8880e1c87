-- The grants of a tagged set, which is the records of a set with one tag, to an applicant. They are in the book's order. Each grant gives the offset and the length
-- of an issuer name in the book.
use Rattle.std.specs.Prelude.{ℕ, ◌+◌, ◌-◌, ◌%◌, cond, List, [], ◌∷◌, ◌++◌, Option, Some, None}
use Rattle.spec_record.specs.declared.PropertyTag.{PropertyTag}
use Rattle.read_value.specs.declared.NameAt.{NameAt}
use Rattle.spec_applicant.specs.Applicant.{Applicant}
use Rattle.read_grantee.specs.Places.{grantee_at}
use Rattle.book_places.specs.Table.{cell, octets_at, owner_at, data_at}
use Rattle.book_places.specs.Sets.{owned_from, data_has_tag}
use Rattle.list_places.specs.declared.TaggedSet.{TaggedSet}
use Rattle.list_places.specs.declared.Grant.{Grant}

-- The grant of record i, whose data begins at `offset` in the book and holds the name n. In a book within the limit every offset and every length
-- fits 16 bits.
abbrev pub grant_in : ℕ → ℕ → NameAt → Grant
grant_in i offset n = record { rr = i; at = (offset % 65536 + n.from % 65536) % 65536; octets = (n.to - n.from) % 65536 }

-- The grant of record i by what was read from its data: none if it grants nobody.
abbrev pub grant_read : ℕ → ℕ → Option NameAt → List Grant
grant_read i offset None = []
grant_read i offset (Some n) = grant_in i offset n ∷ []

module _ (who : Applicant) (book table : List ℕ) (tag : PropertyTag) where
  -- The grant of record i; none if it has another tag.
  abbrev pub grant_at : ℕ → List Grant
  grant_at i = cond (data_has_tag tag (data_at book table i)) (grant_read i (cell table i 2) (grantee_at who (data_at book table i))) []

  -- The grants of a list of records.
  abbrev pub grants_of : List ℕ → List Grant
  grants_of [] = []
  grants_of (i ∷ is) = grant_at i ++ grants_of is

-- The grants of a tagged set, from record i of its chain on.
unfoldable pub grants_from : Applicant → List ℕ → List ℕ → List ℕ → TaggedSet → ℕ → List Grant
grants_from who book table links s i = grants_of who book table s.tag (owned_from book table links (owner_at book table s.set) i)

-- The grants of all records of a tagged set.
abbrev pub grants_by : Applicant → List ℕ → List ℕ → List ℕ → TaggedSet → List Grant
grants_by who book table links s = grants_from who book table links s s.set

-- The first grant of a list, if there is one.
abbrev pub first_grant : List Grant → Option Grant
first_grant [] = None
first_grant (g ∷ gs) = Some g

-- The name in a grant, as the book spells it.
abbrev pub grant_octets : List ℕ → Grant → List ℕ
grant_octets book g = octets_at book g.at g.octets
