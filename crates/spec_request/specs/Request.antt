-- A request: the names to be certified, in wire form (RFC 1035 section 3.1), one after the other.
use Rattle.std.specs.Prelude.{ℕ, Bool, false, cond, not, ◌&&◌, List, [], ◌∷◌, ltb, length, ◌≡◌, ◌≢◌, ◌⊎◌, Option, Some}
use Rattle.spec_limits.specs.Limits.{max_request_octets, max_names}
use Rattle.spec_refusal.specs.declared.Refusal.{Refusal}
use Rattle.spec_refusal.specs.declared.Refusal.TheVariants.{RequestTooLong, BadName, TooManyNames}
use Rattle.spec_octets.specs.Lists.{all, is_empty, All}
use Rattle.spec_octets.specs.Octets.{text, same}
use Rattle.spec_octets.specs.Label.{is_host_label, HostLabel}
use Rattle.spec_octets.specs.Reader.{Reader, given, ◌>>=◌}
use Rattle.spec_octets.specs.Items.{Items, whole_items, item_fault, items}
use Rattle.spec_name.specs.Names.{Label, Name, name, GoodName}

-- RFC 8659 section 2.2, Wildcard Domain Name: an asterisk as the first label (the requirements' "star name" *.X).
abbrev pub is_asterisk : Label → Bool
is_asterisk l = same l (text "*")

unfoldable pub is_wildcard : Name → Bool
is_wildcard [] = false
is_wildcard (l ∷ ls) = is_asterisk l

-- The X of a requested name X or *.X.
unfoldable pub base : Name → Name
base [] = []
base (l ∷ ls) = cond (is_asterisk l) ls (l ∷ ls)

-- X is not the root, and its labels hold letters, digits and inner hyphens.
unfoldable pub is_requestable : Name → Bool
is_requestable n = not (is_empty (base n)) && all is_host_label (base n)

unfoldable pub requested_name : Reader Name
requested_name = do
  n ← name
  given (is_requestable n) n

unfoldable pub name_items : List ℕ → Items Name
name_items s = items requested_name max_names s

-- The names of a request, numbered from 0 in their order; none if one is malformed or there are too many.
unfoldable pub requested_names : List ℕ → List Name
requested_names s = whole_items (name_items s)

-- Rows 1 to 3 of the requirements' table of refusals.
abbrev pub name_refusal : Items Name → Option Refusal
name_refusal i = item_fault (λ k. BadName (record { 0 = k })) TooManyNames i

unfoldable pub request_refusal : List ℕ → Option Refusal
request_refusal s =
    cond (ltb max_request_octets (length s)) (Some RequestTooLong)
    (cond (is_empty s) (Some (BadName (record { 0 = 0 }))) (name_refusal (name_items s)))

-- A valid requested name: X or *.X, where X has one or more labels, each of 1 to 63 letters, digits and inner hyphens.
abbrev pub GoodRequested : Name → Type 0
GoodRequested n = GoodName n × ((x : Name) × ((n ≡ x) ⊎ (n ≡ text "*" ∷ x)) × (x ≢ []) × All HostLabel x)
