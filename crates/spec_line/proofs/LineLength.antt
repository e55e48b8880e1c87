-- A written line is never over the limit of lines: an octet of the value takes at most four.
use Prim.Native.Nat.{ℕ, ◌+◌, ◌*◌, ◌≤◌, ◌<◌}
use native.Mathlib.Omega.{arith}
use mathlib.Core.Path.{◌≡◌, refl}
use mathlib.Core.Bool.{Bool, true, false, cond, ◌||◌}
use mathlib.Core.List.{List, [], ◌∷◌, map}
use lib.Dec.{eqb}
use lib.ListN.{length, length-append, length-map}
use Rattle.spec_limits.specs.Limits.{max_data_octets, max_line_octets}
use Rattle.spec_octets.specs.Lists.{flatten}
use Rattle.spec_octets.specs.Octets.{between}
use Rattle.spec_octets.specs.WrittenDecimal.{decimal, three_digits}
use Rattle.spec_octets.proofs.WrittenDecimals.{decimal_within_lem}
use Rattle.spec_record.specs.Property.{Property}
use Rattle.spec_line.specs.Written.{quote, backslash, escaped, line}
use Rattle.spec_line.specs.Theorems.{LineFits}

-- The three forms of an octet, told by their lengths.
pub data Form (x : ℕ) (e : List ℕ) : Type 0 where
  itself : e ≡ x ∷ [] → Form x e
  behind_backslash : e ≡ backslash ∷ x ∷ [] → Form x e
  in_digits : e ≡ backslash ∷ three_digits x → Form x e

pub form : (x : ℕ) → Form x (escaped x)
unfolding escaped
form x = go (eqb x quote || eqb x backslash) (between 32 126 x)
  where
    go : (t u : Bool) → Form x (cond t (backslash ∷ x ∷ []) (cond u (x ∷ []) (backslash ∷ three_digits x)))
    go true u = behind_backslash refl
    go false true = itself refl
    go false false = in_digits refl

pub escaped_short : (x : ℕ) → length (escaped x) ≤ 4
escaped_short x = go (form x)
  where
    go : Form x (escaped x) → length (escaped x) ≤ 4
    go (itself f) = rw f (omega arith)
    go (behind_backslash f) = rw f (omega arith)
    go (in_digits f) = rw f (omega arith)

pub value_short : (v : List ℕ) → length (flatten (map escaped v)) ≤ 4 * length v
value_short [] = omega arith
value_short (x ∷ v) = rw length-append (omega (arith, escaped_short x, value_short v))

pub flags_short : (f : ℕ) → f < 256 → length (decimal f) ≤ 3
flags_short f h = decimal_within_lem 2 f (omega arith)

-- a line takes at most four octets for each of the value
pub line_short : (p : Property) → p.flags < 256 → length (line p) ≤ 7 + length p.tag + 4 * length p.value
unfolding line
line_short p h = simp (length-append, length-map) (omega (arith, flags_short p.flags h, value_short p.value))

pub line_fits : LineFits
unfolding max_data_octets max_line_octets
line_fits p (f, t, v) fits = let short = simp length-append at fits in omega (arith, line_short p f)
