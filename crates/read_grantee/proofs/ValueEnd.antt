-- The value of CAA data is a suffix of the data.
use Rattle.std.specs.Prelude.{Option, None, Some}
use Prim.Native.Nat.{ℕ, ◌≤◌, ◌+◌, ◌-◌}
use native.Mathlib.Omega.{arith}
use mathlib.Core.Path.{◌≡◌, refl}
use mathlib.Core.List.{List, ◌∷◌}
use lib.ListN.{length, drop, length-append, drop_of_length-le}
use lib.Seq.{drop_at}
use Rattle.spec_record.specs.Property.{Property, wire_property, property}
use Rattle.spec_record.proofs.PropertyLaws.{property_is_its_parts}
use Rattle.read_property.specs.Places.{value_in, value_part}

module _ (d : List ℕ) where
  pub value_short : length (value_part d) ≤ length d
  unfolding value_part
  value_short = go (property d) refl
    where
      go : (o : Option Property) → property d ≡ o → length (value_in o) ≤ length d
      go None e = omega arith
      go (Some p) e = let (made, tagged) = (property_is_its_parts d p).0 e in rw (made, length-append) (omega arith)

  pub value_ends : drop (length d - length (value_part d)) d ≡ value_part d
  unfolding value_part
  value_ends = go (property d) refl
    where
      go : (o : Option Property) → property d ≡ o → drop (length d - length (value_in o)) d ≡ value_in o
      go None e = drop_of_length-le d {i = length d - 0} (omega arith)
      go (Some p) e =
          let (made, tagged) = (property_is_its_parts d p).0 e in
          let front : 2 + length p.tag ≡ length (wire_property p) - length p.value = rw length-append (omega arith) in
          rw made (drop_at (p.flags ∷ length p.tag ∷ p.tag) p.value (length (wire_property p) - length p.value) (omega (arith, front)))
