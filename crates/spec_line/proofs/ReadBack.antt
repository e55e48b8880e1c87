-- The two calls one after the other, whatever the buffers held.
use Rattle.std.specs.Prelude.{Ok}
use Prim.Native.Nat.{ℕ, ◌≤◌}
use mathlib.Core.Path.{◌≡◌, refl, ap}
use mathlib.Core.List.{List, ◌++◌}
use lib.ListN.{length, drop, length-append, length-map}
use lib.Seq.{take-append_seam, take_at}
use borrow.Author.Tests.{le-leb}
use Rattle.spec_limits.specs.Limits.{max_data_octets, max_line_octets}
use Rattle.spec_octets.specs.Octets.{is_letter_or_digit}
use Rattle.spec_octets.proofs.ListLaws.{all_true}
use Rattle.spec_record.specs.Property.{wire_property}
use Rattle.spec_record.proofs.PropertyLaws.{property_is_its_parts}
use Rattle.spec_line.specs.Written.{line}
use Rattle.spec_line.specs.Calls.{Output, placed, write_line, parse_line}
use Rattle.spec_line.specs.Theorems.{small_tag, LinePlaced, DataPlaced, WrittenReadsBack}
use Rattle.spec_line.proofs.LineLength.{line_fits}
use Rattle.spec_line.proofs.Lines.{line_is_the_grammar}
use Rattle.spec_line.proofs.WrittenParts.{line_written}

-- what fits is placed at the front of the buffer
abbrev pub at_front : List ℕ → List ℕ → Output
at_front made buffer = record { answer = Ok (length made); buffer = made ++ drop (length made) buffer }

pub placed_fits : (made buffer : List ℕ) → length made ≤ length buffer → placed made buffer ≡ at_front made buffer
unfolding placed
placed_fits made buffer fits = rw (le-leb (length made) (length buffer) fits)

pub line_placed : LinePlaced
unfolding write_line
line_placed d buffer p short (is, tagged, letters) room =
    rw (
      le-leb (length d) max_data_octets short,
      (property_is_its_parts d p).1 (is, tagged),
      (all_true is_letter_or_digit p.tag).1 letters,
    )
    (placed_fits (line p) buffer room)

pub data_placed : DataPlaced
unfolding parse_line
data_placed s buffer p short stands fits room =
    rw (
      le-leb (length s) max_line_octets short,
      (line_is_the_grammar s p).1 stands,
      le-leb (length (wire_property p)) max_data_octets fits,
    )
    (placed_fits (wire_property p) buffer room)

pub written_reads_back : WrittenReadsBack
written_reads_back p b₁ b₂ has fits room₁ room₂ = rw (written, take-append_seam, read) (refl, ap Ok same, take_at w _ _ same)
  where
    w : List ℕ
    w = wire_property (small_tag p)

    same : length w ≡ length (wire_property p)
    same = simp (length-append, length-map)

    written : write_line (wire_property p) b₁ ≡ at_front (line p) b₁
    written = line_placed (wire_property p) b₁ p fits (refl, has.1.0, has.1.2) room₁

    read : parse_line (line p) b₂ ≡ at_front w b₂
    read = data_placed (line p) b₂ (small_tag p) (line_fits p has fits) (line_written p has) (rw same fits) (rw same room₂)
