-- Domain names (RFC 1035 section 3.1). A name is the list of its labels, leftmost first; the root is the empty list.
use Rattle.std.specs.Prelude.{ℕ, zero, suc, ◌≤◌, Bool, true, false, cond, ◌&&◌, List, [], ◌∷◌, ◌++◌, leb, eqb, length}
use Rattle.spec_limits.specs.Limits.{max_label_octets, max_name_octets}
use Rattle.spec_octets.specs.Octets.{equal_ignoring_case}
use Rattle.spec_octets.specs.Reader.{Reader, pure, fault, given, ◌>>=◌, octet, octets}
use Rattle.spec_octets.specs.Lists.{All}

abbrev pub Label : Type 0
Label = List ℕ

abbrev pub Name : Type 0
Name = List Label

-- RFC 1035 section 3.1, wire form: each label as a length octet and its octets, and a zero octet at the end.
abbrev pub wire : Name → List ℕ
wire [] = 0 ∷ []
wire (l ∷ ls) = length l ∷ (l ++ wire ls)

-- The labels up to the zero octet, fewer than `room` of them. A length octet above 63, as in a compression pointer, is rejected.
abbrev pub label_and_more : ℕ → Reader Name → Reader Name
label_and_more n more = do
  l ← octets n
  ls ← more
  pure (l ∷ ls)

abbrev pub labels : ℕ → Reader Name
labels zero = fault
labels (suc room) = do
  n ← octet
  cond (eqb n 0) (pure []) (cond (leb n max_label_octets) (label_and_more n (labels room)) fault)

-- A name of at most 255 octets in wire form (RFC 1035 section 2.3.4). Such a name has fewer than 255 labels.
unfoldable pub name : Reader Name
name = do
  n ← labels max_name_octets
  given (leb (length (wire n)) max_name_octets) n

-- "whole and equal octet for octet, A to Z counting as a to z": label by label.
abbrev pub same_name : Name → Name → Bool
same_name [] [] = true
same_name [] (y ∷ ys) = false
same_name (x ∷ xs) [] = false
same_name (x ∷ xs) (y ∷ ys) = equal_ignoring_case x y && same_name xs ys

-- RFC 8659 section 3: the names at which the search looks for CAA records: X, its parent, and so on. The root is not among them.
-- The requirements call this walk up the DNS tree the "climb".
abbrev pub ancestors : Name → List Name
ancestors [] = []
ancestors (l ∷ ls) = (l ∷ ls) ∷ ancestors ls

-- A valid name: labels of 1 to 63 octets, at most 255 octets with the closing zero (RFC 1035 section 2.3.4).
abbrev pub GoodName : Name → Type 0
GoodName n = All (λ l. (1 ≤ length l) × (length l ≤ max_label_octets)) n × (length (wire n) ≤ max_name_octets)
