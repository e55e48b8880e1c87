-- Readers. A reader takes a value off the front of the octets and returns it with the remaining octets, or it fails.
use Rattle.std.specs.Prelude.{ℕ, zero, suc, ◌+◌, ◌-◌, ◌*◌, ◌/◌, ◌%◌, Bool, cond, List, [], ◌∷◌, ◌++◌, leb, length, take, drop, Option, None, Some}

infixl 20 ◌>>=◌
abbrev pub Reader : Type 0 → Type 0
Reader A = List ℕ → Option (A × List ℕ)

module _ {A : Type 0} where
  abbrev pub pure : A → Reader A
  pure a s = Some (a, s)

  abbrev pub fault : Reader A
  fault s = None

  -- Returns a if the test passes; fails otherwise.
  abbrev pub given : Bool → A → Reader A
  given t a = cond t (pure a) fault

module _ {A B : Type 0} where
  -- Applies f to the value read and the remaining octets; b if the reader failed.
  abbrev pub if_read : B → Option (A × List ℕ) → (A → List ℕ → B) → B
  if_read b None f = b
  if_read b (Some r) f = f r.0 r.1

module _ {A B : Type 0} where
  abbrev pub and_then : Option (A × List ℕ) → (A → Reader B) → Option (B × List ℕ)
  and_then o f = if_read None o f

  -- Runs p, then f on what p returned. This is what `do` stands for.
  abbrev pub ◌>>=◌ : Reader A → (A → Reader B) → Reader B
  ◌>>=◌ p f s = and_then (p s) f

abbrev pub octet : Reader ℕ
octet [] = None
octet (x ∷ s) = Some (x, s)

-- The next n octets.
abbrev pub octets : ℕ → Reader (List ℕ)
octets n s = cond (leb n (length s)) (Some (take n s, drop n s)) None

-- All remaining octets.
abbrev pub remainder : Reader (List ℕ)
remainder s = Some (s, [])

-- Network byte order (RFC 1035 section 2.3.2): "All numbers have the high octet first".
abbrev pub value_from : ℕ → List ℕ → ℕ
value_from n [] = n
value_from n (x ∷ s) = value_from (n * 256 + x) s

-- The offset in s at which the remaining octets `rest` begin.
abbrev pub place_of : List ℕ → List ℕ → ℕ
place_of s rest = length s - length rest

-- A number of k octets.
unfoldable pub number : ℕ → Reader ℕ
number k = do
  s ← octets k
  pure (value_from 0 s)

-- n as k octets in network byte order.
abbrev pub in_octets : ℕ → ℕ → List ℕ
in_octets zero n = []
in_octets (suc k) n = in_octets k (n / 256) ++ (n % 256 ∷ [])
