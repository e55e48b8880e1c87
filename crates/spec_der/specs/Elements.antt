-- DER elements (X.690 section 8.1): a tag octet, length octets, contents. A tag has one octet, and a length is definite and as short as can be.
use Rattle.std.specs.Prelude.{ℕ, ◌-◌, ◌%◌, ◌<◌, ◌^◌, ◌≢◌, Bool, cond, not, List, [], ◌∷◌, ◌++◌, eqb, ltb, length, Option, None, Some}
use Rattle.spec_octets.specs.Octets.{same}
use Rattle.spec_octets.specs.Reader.{Reader, given, ◌>>=◌, octet, octets, value_from, in_octets}
use Rattle.spec_octets.specs.Items.{Items, whole, broken, over, items}

pub record Element : Type 0 where
  pub tag : ℕ
  pub contents : List ℕ

-- The length octets of contents of n octets, for n up to 65,535. Longer contents don't fit in a certificate.
unfoldable pub wire_length : ℕ → List ℕ
wire_length n = cond (ltb n 128) (n ∷ []) (cond (ltb n 256) (129 ∷ n ∷ []) (130 ∷ in_octets 2 n))

unfoldable pub wire_element : Element → List ℕ
wire_element e = e.tag ∷ (wire_length (length e.contents) ++ e.contents)

-- X.690 sections 8.1.3.4 and 8.1.3.5. A first length octet x below 128 is the length. Any other says by its low seven bits how many octets follow,
-- and these are the length.
abbrev pub more_length_octets : ℕ → ℕ
more_length_octets x = cond (ltb x 128) 0 (x - 128)

abbrev pub length_value : ℕ → List ℕ → ℕ
length_value x more = cond (ltb x 128) x (value_from 0 more)

-- A length, if its octets are those in which it is written. So 128 (the indefinite form) is no length, and no longer form than needed is one.
unfoldable pub element_length : Reader ℕ
element_length = do
  x ← octet
  more ← octets (more_length_octets x)
  given (same (x ∷ more) (wire_length (length_value x more))) (length_value x more)

-- X.690 section 8.1.2.4: a tag octet whose low five bits are all set is the first of several.
unfoldable pub is_short_tag : ℕ → Bool
is_short_tag t = not (eqb (t % 32) 31)

unfoldable pub element : Reader Element
element = do
  t ← octet
  n ← element_length
  c ← octets n
  given (is_short_tag t) (record { tag = t; contents = c })

-- An element with this tag.
unfoldable pub tagged : ℕ → Reader Element
tagged t = do
  e ← element
  given (eqb e.tag t) e

-- All remaining octets, as elements one after the other.
abbrev pub all_of : Items Element → Option (List Element × List ℕ)
all_of (whole es) = Some (es, [])
all_of (broken k) = None
all_of over = None

unfoldable pub elements : Reader (List Element)
elements s = all_of (items element (length s) s)

-- An element that can be written: its tag has one octet, and its length two octets after the first, or fewer.
abbrev pub GoodElement : Element → Type 0
GoodElement e = (e.tag % 32 ≢ 31) × (length e.contents < 2 ^ 16)
