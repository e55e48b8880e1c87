-- The entries for a list of names: each is a length octet and the name. The definitions are for every list, so a name of 256 octets or more has no
-- entry. An issuer name has at most 253 octets.
use Rattle.std.specs.Prelude.{ℕ, ◌≤◌, ◌≡◌, cond, List, [], map, ltb, length}
use Rattle.spec_octets.specs.Lists.{flatten}
use Rattle.spec_octets.specs.Octets.{lowered}
use Rattle.spec_rule.specs.IssuerLists.{entry}
use Rattle.list_entry.specs.declared.ListSize.{ListSize}

-- The entry of one name.
unfoldable pub entry_of : List ℕ → List ℕ
entry_of n = cond (ltb (length n) 256) (entry n) []

-- n is the length of the entry of the name x.
pub record EntryLength (x : List ℕ) (n : ℕ) : Type 0 where
  pub is : n ≡ length (entry_of (lowered x))
  pub small : n ≤ 256

-- The entries of all names, one after the other.
unfoldable pub entries_of : List (List ℕ) → List ℕ
entries_of ns = flatten (map entry_of ns)

-- The number of names, and the number of octets that their entries take.
abbrev pub size_of : List (List ℕ) → ListSize
size_of ns = record { count = length ns; octets = length (entries_of ns) }
