-- The returns of write_line: what write_line is at each, from what the code has found.
use Rattle.spec_refusal.specs.declared.Refusal.{Refusal}
use Rattle.std.specs.Prelude.{Option, None, Some, Result}
use Prim.Native.Nat.{ℕ, ◌≤◌, ◌<◌}
use native.Mathlib.Omega.{arith}
use mathlib.Core.Path.{◌≡◌, refl, sym, ap, ◌∙◌}
use mathlib.Core.Bool.{Bool, true, false}
use mathlib.Core.List.{List}
use lib.ListN.{length, length-append}
use borrow.Author.Tests.{le-leb, lt-leb}
use Rattle.spec_limits.specs.Limits.{max_data_octets}
use Rattle.spec_refusal.specs.declared.Refusal.TheVariants.{LineTooLong, BadData}
use Rattle.spec_octets.specs.Lists.{all}
use Rattle.spec_octets.specs.Octets.{is_letter_or_digit}
use Rattle.read_property.specs.Places.{property_at, tag_in, value_in, tag_part, value_part}
use Rattle.spec_record.specs.Property.{Property, property}
use Rattle.read_property.specs.declared.PropertyAt.{PropertyAt}
use Rattle.spec_record.proofs.PropertyLaws.{property_is_its_parts}
use Rattle.read_property.proofs.PropertyPlaces.{PropertyTo, property_there, no_property}
use Rattle.spec_line.specs.Calls.{refused, placed, write_line}
use Rattle.line_property.specs.Places.{line_of, write_property}
use Rattle.line_property.proofs.PropertyWays.{property_placed}

module _ (d b : List ℕ) where
  pub data_too_long : 4096 < length d → write_line d b ≡ refused LineTooLong b
  unfolding write_line max_data_octets
  data_too_long h = rw (lt-leb (length d) 4096 h)

  module _ (fits : length d ≤ 4096) where
    -- the parts are no longer than the whole
    parts_short : (o : Option Property) → property d ≡ o → (length (tag_in o) ≤ 4096) × (length (value_in o) ≤ 4096)
    parts_short None e = (omega arith, omega arith)
    parts_short (Some q) e =
        let whole = ((property_is_its_parts d q).0 e).0 in
        let long = length-append q.tag q.value in
        (omega (arith, ap length whole), omega (arith, ap length whole))

    tag_short : (t : List ℕ) → t ≡ tag_part d → length t ≤ max_data_octets
    unfolding tag_part max_data_octets
    tag_short t e = rw e (parts_short (property d) refl).0

    value_short : (v : List ℕ) → v ≡ value_part d → length v ≤ max_data_octets
    unfolding value_part max_data_octets
    value_short v e = rw e (parts_short (property d) refl).1

    module _ (o : Option PropertyAt) (f : o ≡ property_at d) where
      pub no_data : o ≡ None → write_line d b ≡ refused BadData b
      unfolding write_line max_data_octets
      no_data g = rw (le-leb (length d) 4096 fits, no_property d o f g)

      module _ (p : PropertyAt) (g : o ≡ Some p) (t : List ℕ) (tag : t ≡ tag_part d) (r : Bool) (plain : r ≡ all is_letter_or_digit t) where
        pub not_plain : r ≡ false → write_line d b ≡ refused BadData b
        unfolding write_line max_data_octets tag_part
        not_plain h =
            let (q, k) = property_there d o f p g in
            let same : t ≡ q.tag = tag ∙ rw k.found in
            rw (le-leb (length d) 4096 fits, k.found, ← same, ← plain, h)

        module _ (h : r ≡ true) (v : List ℕ) (value : v ≡ value_part d) where
          is_placed : write_line d b ≡ placed (line_of p.flags t v) b
          unfolding write_line max_data_octets tag_part value_part
          is_placed = let (q, k) = property_there d o f p g in go q k
            where
              go : (q : Property) → PropertyTo d p q → write_line d b ≡ placed (line_of p.flags t v) b
              go q k =
                  let same : t ≡ q.tag = tag ∙ rw k.found in
                  let rest : v ≡ q.value = value ∙ rw k.found in
                  rw (le-leb (length d) 4096 fits, k.found, ← same, ← plain, h, k.flags, rest)

          is_passed : write_line d b ≡ write_property p.flags t v b
          is_passed = is_placed ∙ sym (property_placed p.flags t v b (tag_short t tag) (value_short v value))

          pub passed_answer : (m : Result ℕ Refusal) → m ≡ (write_property p.flags t v b).answer → m ≡ (write_line d b).answer
          passed_answer m e = rw is_passed e

          pub passed_octets : (x : List ℕ) → x ≡ (write_property p.flags t v b).buffer → x ≡ (write_line d b).buffer
          passed_octets x e = rw is_passed e
