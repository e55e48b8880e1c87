-- A sequence of items without separators: the names of a request, the records of a book.
use Rattle.std.specs.Prelude.{ℕ, zero, suc, ◌≡◌, ◌≢◌, List, [], ◌∷◌, ◌++◌, map, length, Option, None, Some}
use Rattle.spec_octets.specs.Lists.{All, flatten}
use Rattle.spec_octets.specs.Reader.{Reader}

-- The result of reading octets as a sequence of items.
pub data Items (A : Type 0) : Type 0 where
  -- The octets are exactly these items.
  whole : List A → Items A
  -- The item with this number, counted from 0, is malformed.
  broken : ℕ → Items A
  -- Octets are left after the maximum number of items.
  over : Items A

module _ {A : Type 0} where
  -- The result when one more item comes first.
  abbrev pub follow : A → Items A → Items A
  follow a (whole xs) = whole (a ∷ xs)
  follow a (broken k) = broken (suc k)
  follow a over = over

  abbrev pub before : Option (A × List ℕ) → (List ℕ → Items A) → Items A
  before None rest = broken 0
  before (Some r) rest = follow r.0 (rest r.1)

  -- The items; none if one is malformed or there are too many.
  abbrev pub whole_items : Items A → List A
  whole_items (whole xs) = xs
  whole_items (broken k) = []
  whole_items over = []

  -- The refusal, if any: `bad k` if item k is malformed, `many` if there are too many.
  abbrev pub item_fault : {R : Type 0} → (ℕ → R) → R → Items A → Option R
  item_fault bad many (whole xs) = None
  item_fault bad many (broken k) = Some (bad k)
  item_fault bad many over = Some many

module _ {A : Type 0} (read : Reader A) where
  -- Reads at most `room` items, one after the other, as long as octets are left.
  abbrev pub items : ℕ → List ℕ → Items A
  items zero [] = whole []
  items zero (x ∷ s) = over
  items (suc room) [] = whole []
  items (suc room) (x ∷ s) = before (read (x ∷ s)) (λ rest. items room rest)

-- The same without a reader. `wire` gives the octets of an item, `Good` says which items are valid.
module _ {A : Type 0} (wire : A → List ℕ) (Good : A → Type 0) where
  -- s begins with the valid items xs, in this order, and then rest follows.
  abbrev pub Front : List ℕ → List A → List ℕ → Type 0
  Front s xs rest = (s ≡ flatten (map wire xs) ++ rest) × All Good xs

  -- s begins with k valid items; octets follow, and they don't begin with a valid item.
  abbrev pub BrokenAt : List ℕ → ℕ → Type 0
  BrokenAt s k =
      (xs : List A) × (rest : List ℕ) × Front s xs rest × (length xs ≡ k) × (rest ≢ []) ×
      ((a : A) (more : List ℕ) → rest ≡ wire a ++ more → Good a → ⊥)

  -- Octets are left after n valid items.
  abbrev pub Beyond : ℕ → List ℕ → Type 0
  Beyond n s = (xs : List A) × (rest : List ℕ) × Front s xs rest × (length xs ≡ n) × (rest ≢ [])
