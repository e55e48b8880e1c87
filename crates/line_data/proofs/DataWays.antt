-- The returns of write_data: what write_data is at each, from what the code has found.
use Rattle.std.specs.Prelude.{Option, None, Some, Ok}
use Prim.Native.Nat.{ℕ, ◌≤◌, ◌<◌, ◌+◌, ◌-◌}
use native.Mathlib.Omega.{arith}
use mathlib.Core.Path.{◌≡◌, refl, sym, ◌∙◌}
use mathlib.Core.Bool.{true}
use mathlib.Core.List.{List}
use lib.ListN.{length, length-append}
use borrow.Author.Tests.{le-leb, lt-leb}
use Rattle.spec_limits.specs.Limits.{max_data_octets, max_tag_octets}
use Rattle.spec_refusal.specs.declared.Refusal.TheVariants.{NoRoom, BadLine, LineTooLong}
use Rattle.spec_octets.specs.Buffer.{Put}
use Rattle.spec_line.specs.Read.{unescaped}
use Rattle.spec_line.specs.Calls.{refused, placed, read_of}
use Rattle.spec_line.proofs.Placed.{placed_there, placed_nowhere}
use Rattle.line_octet.specs.declared.Style.{Style}
use Rattle.line_octet.specs.Places.{plain_in}
use Rattle.line_data.specs.Places.{count_read, unescaped_count, is_escaped_text, octets_in, unescaped_octets, data_of, tagged_property, write_data}

-- What count_unescaped has told.
module _ (style : Style) (u : List ℕ) (k : Option ℕ) (counted : k ≡ unescaped_count style u) (n : ℕ) (h : k ≡ Some n) where
  all_read : unescaped (plain_in style) u ≡ Some (unescaped_octets style u)
  unfolding unescaped_count
  all_read = go (unescaped (plain_in style) u) (sym counted ∙ h)
    where
      go : (w : Option (List ℕ)) → count_read w ≡ Some n → w ≡ Some (octets_in w)
      go None c = let z : ◌≡◌ {A = ℕ} 0 1 = cc in absurd (omega arith)
      go (Some v) c = refl

  pub counts : length (unescaped_octets style u) ≡ n
  unfolding unescaped_count
  counts = go (unescaped (plain_in style) u) (sym counted ∙ h)
    where
      go : (w : Option (List ℕ)) → count_read w ≡ Some n → length (octets_in w) ≡ n
      go None c = let z : ◌≡◌ {A = ℕ} 0 1 = cc in absurd (omega arith)
      go (Some v) c = cc

  pub are_units : is_escaped_text style u ≡ true
  are_units = rw all_read

pub short_tag : (t : List ℕ) → length t ≤ 255 → length t ≤ max_tag_octets
unfolding max_tag_octets
short_tag t h = h

module _ (f : ℕ) (t : List ℕ) (style : Style) (u b : List ℕ) where
  -- by what the units stand for
  by_units : (w : Option (List ℕ)) → unescaped (plain_in style) u ≡ w → write_data f t style u b ≡ read_of (tagged_property f t w) b
  unfolding write_data
  by_units w e = rw e

  pub long_tag_lem : 255 < length t → write_data f t style u b ≡ refused BadLine b
  unfolding max_tag_octets
  long_tag_lem h = by_units _ refl ∙ go (unescaped (plain_in style) u)
    where
      go : (w : Option (List ℕ)) → read_of (tagged_property f t w) b ≡ refused BadLine b
      go None = refl
      go (Some v) = rw (lt-leb (length t) 255 h)

  module _ (short : length t ≤ 255) (k : Option ℕ) (counted : k ≡ unescaped_count style u) where
    pub wrong_units : k ≡ None → write_data f t style u b ≡ refused BadLine b
    unfolding unescaped_count
    wrong_units h = go (unescaped (plain_in style) u) refl (sym counted ∙ h)
      where
        go : (w : Option (List ℕ)) → unescaped (plain_in style) u ≡ w → count_read w ≡ None → write_data f t style u b ≡ refused BadLine b
        go None e c = by_units None e
        go (Some v) e c = let z : ◌≡◌ {A = ℕ} 0 1 = cc in absurd (omega arith)

    module _ (n : ℕ) (h : k ≡ Some n) where
      abbrev made : List ℕ
      made = data_of f t (unescaped_octets style u)

      long : length made ≡ 2 + length t + n
      long = omega (arith, length-append t (unescaped_octets style u), counts style u k counted n h)

      found : write_data f t style u b ≡ read_of (Some (record { flags = f; tag = t; value = unescaped_octets style u })) b
      unfolding max_tag_octets
      found = by_units (Some (unescaped_octets style u)) (all_read style u k counted n h) ∙ rw (le-leb (length t) 255 short)

      pub data_too_long : 4096 - 2 - length t < n → write_data f t style u b ≡ refused LineTooLong b
      unfolding max_data_octets
      data_too_long over = found ∙ rw (lt-leb (length made) 4096 (omega (arith, long)))

      module _ (small : n ≤ 4096 - 2 - length t) where
        is_placed : write_data f t style u b ≡ placed made b
        unfolding max_data_octets
        is_placed = found ∙ rw (le-leb (length made) 4096 (omega (arith, long)))

        pub no_room : length b < 2 + length t + n → write_data f t style u b ≡ refused (NoRoom (2 + length t + n)) b
        no_room less = is_placed ∙ placed_nowhere made b (2 + length t + n) (sym long) less

        pub data_stands :
            (x : List ℕ) (j : ℕ) → 2 + length t + n ≤ length b → Put made b x j →
            write_data f t style u b ≡ record { answer = Ok (2 + length t + n); buffer = x }
        data_stands x j room put = is_placed ∙ placed_there made b x (2 + length t + n) j (sym long) room put
