-- The returns of write_property: what write_property is at each, from what the code has found.
use Rattle.std.specs.Prelude.{Ok}
use Prim.Native.Nat.{ℕ, ◌≤◌, ◌<◌}
use mathlib.Core.Path.{◌≡◌, ◌∙◌}
use mathlib.Core.Bool.{and-false}
use mathlib.Core.List.{List}
use lib.ListN.{length}
use borrow.Author.Tests.{le-leb, lt-leb}
use Rattle.spec_limits.specs.Limits.{max_data_octets}
use Rattle.spec_refusal.specs.declared.Refusal.TheVariants.{NoRoom, LineTooLong}
use Rattle.spec_octets.specs.Buffer.{Put}
use Rattle.spec_line.specs.Calls.{refused, placed}
use Rattle.spec_line.proofs.Placed.{placed_there, placed_nowhere}
use Rattle.line_property.specs.Places.{line_of, write_property}

pub part_short : (l : List ℕ) → length l ≤ 4096 → length l ≤ max_data_octets
unfolding max_data_octets
part_short l h = h

module _ (f : ℕ) (t v b : List ℕ) where
  pub tag_too_long : 4096 < length t → write_property f t v b ≡ refused LineTooLong b
  unfolding write_property max_data_octets
  tag_too_long h = rw (lt-leb (length t) 4096 h)

  pub value_too_long : 4096 < length v → write_property f t v b ≡ refused LineTooLong b
  unfolding write_property max_data_octets
  value_too_long h = rw (lt-leb (length v) 4096 h, and-false)

  module _ (short : length t ≤ max_data_octets) (few : length v ≤ max_data_octets) where
    pub property_placed : write_property f t v b ≡ placed (line_of f t v) b
    unfolding write_property
    property_placed = rw (le-leb (length t) max_data_octets short, le-leb (length v) max_data_octets few)

    module _ (n : ℕ) (m : n ≡ length (line_of f t v)) where
      pub no_room : length b < n → write_property f t v b ≡ refused (NoRoom n) b
      no_room l = property_placed ∙ placed_nowhere (line_of f t v) b n m l

      pub line_stands : (x : List ℕ) (k : ℕ) → n ≤ length b → Put (line_of f t v) b x k → write_property f t v b ≡ record { answer = Ok n; buffer = x }
      line_stands x k l q = property_placed ∙ placed_there (line_of f t v) b x n k m l q
