-- Aliases (CNAME records), and where following them ends. RFC 1034 section 3.6.2; RFC 8659 section 3 asks for it in each lookup.
use Rattle.std.specs.Prelude.{ℕ, zero, suc, List, [], ◌∷◌, Option, None, Some}
use Rattle.spec_octets.specs.Lists.{select}
use Rattle.spec_name.specs.Names.{Name, same_name}
use Rattle.spec_record.specs.Records.{Record, is_alias, target}
use Rattle.spec_record.specs.Kinds.{of_kind_from}

-- An alias, with its number among all records of the book.
pub record Alias : Type 0 where
  pub number : ℕ
  pub owner : Name
  pub target : Name

abbrev pub as_alias : ℕ → Name → Name → Alias
as_alias k owner t = record { number = k; owner = owner; target = t }

abbrev pub aliases_from : ℕ → List Record → List Alias
aliases_from k rs = of_kind_from is_alias target as_alias k rs

abbrev pub aliases : List Record → List Alias
aliases rs = aliases_from 0 rs

-- The aliases of a name. In an accepted book a name has at most one.
abbrev pub aliases_of : List Alias → Name → List Alias
aliases_of al x = select (λ a. same_name a.owner x) al

-- Follow the first of these aliases of x. Without one, x is the end.
abbrev pub through : List Alias → (Name → Option Name) → Name → Option Name
through [] follow x = Some x
through (a ∷ al) follow x = follow a.target

-- Where following at most n aliases from x ends; none if one more would have to be followed.
abbrev pub followed : ℕ → List Alias → Name → Option Name
followed zero al x = through (aliases_of al x) (λ t. None) x
followed (suc n) al x = through (aliases_of al x) (followed n al) x
