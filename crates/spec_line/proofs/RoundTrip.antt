-- Writing and reading again gives the same data with its tag in lower case.
use Prim.Native.Nat.{ℕ, ◌<◌}
use native.Mathlib.Omega.{arith}
use mathlib.Core.Path.{◌≡◌, subst}
use mathlib.Core.Logic.{inl, inr}
use mathlib.Core.Bool.{Bool, true, ◌&&◌, and-eq-true_iff}
use mathlib.Core.List.{List}
use lib.Dec.{leb}
use borrow.Author.Tests.{leb-true}
use Rattle.spec_octets.specs.Octets.{Octets, between}
use Rattle.spec_octets.proofs.ListLaws.{All-map}
use Rattle.spec_record.specs.Property.{Property}
use Rattle.spec_line.specs.Read.{WrittenOctet, plain, quoted, numbered, value_of, is_in_quotes, is_bare}
use Rattle.spec_line.specs.Grammar.{TagField, GoodWrittenOctet, WrittenFor, ValueField, LineOf, HasLine}
use Rattle.spec_line.specs.Theorems.{ThereAndBack, BackAndThere}
use Rattle.spec_line.proofs.Lines.{line_is_the_grammar}
use Rattle.spec_line.proofs.WrittenParts.{line_written}

-- where a class holds only octets, units stand for octets
module _ {class : ℕ → Bool} (small : (x : ℕ) → class x ≡ true → x < 256) where
  unit_octet : (u : WrittenOctet) → GoodWrittenOctet class u → value_of u < 256
  unit_octet (plain x) (h, n) = small x h
  unit_octet (quoted x) h = omega arith
  unit_octet (numbered a b c) h = omega arith

  units_octets : (v s : List ℕ) → WrittenFor class v s → Octets v
  units_octets v s (us, e, goods, are) = subst Octets are (All-map value_of unit_octet goods)

-- what is at most 126 is an octet, whatever else is asked of it
class_octet : (low x : ℕ) (t : Bool) → between low 126 x && t ≡ true → x < 256
class_octet low x t h =
    let (range, other) = (and-eq-true_iff (between low 126 x) t).0 h in
    let (lo, hi) = (and-eq-true_iff (leb low x) (leb x 126)).0 range in
    omega (arith, leb-true x 126 hi)

value_octets : (v s : List ℕ) → ValueField v s → Octets v
unfolding is_in_quotes is_bare
value_octets v s (inl (c, e, us)) = units_octets (λ x. class_octet 32 x _) v c us
value_octets v s (inr (n, us)) = units_octets (λ x. class_octet 33 x _) v s us

has_line : (s : List ℕ) (p : Property) → LineOf p s → HasLine p
has_line s p (f, s₁, e, flags, (b₁, s₂, e₁, blanks, (t, s₃, e₂, (same, tag), (b₂, v, e₃, more, value)))) =
    (omega arith, subst TagField same tag, value_octets p.value v value)

pub there_and_back : ThereAndBack
there_and_back p h = (line_is_the_grammar _ _).1 (line_written p h)

-- what was read has a line; that s is of octets is not needed
pub back_and_there : BackAndThere
back_and_there s p o h = there_and_back p (has_line s p ((line_is_the_grammar s p).0 h))
