-- The returns of read_line: what parse_line is at each, from what the code has found.
use Rattle.spec_refusal.specs.declared.Refusal.{Refusal}
use Rattle.std.specs.Prelude.{Option, None, Some, Result}
use Prim.Native.Nat.{ℕ, ◌≤◌, ◌<◌, ◌-◌}
use mathlib.Core.Path.{◌≡◌, refl, ◌∙◌}
use mathlib.Core.Bool.{and-eq-true_iff, ◌&&◌, not}
use mathlib.Core.List.{List}
use lib.Dec.{leb}
use lib.ListN.{length, take, drop}
use borrow.Author.Tests.{le-leb, lt-leb, leb-true}
use Rattle.spec_octets.proofs.Walks.{rest_whole}
use Rattle.spec_limits.specs.Limits.{max_line_octets, max_tag_octets}
use Rattle.spec_refusal.specs.declared.Refusal.TheVariants.{BadLine, LineTooLong}
use Rattle.spec_octets.specs.Lists.{all, is_empty}
use Rattle.spec_octets.specs.Octets.{is_letter_or_digit}
use Rattle.spec_line.specs.Read.{unescaped, line_value, is_line_tag, read_line, property_of}
use Rattle.spec_line.specs.Calls.{refused, read_of, parse_line}
use Rattle.line_octet.specs.Places.{plain_in}
use Rattle.line_parts.specs.declared.LineAt.{LineAt}
use Rattle.line_parts.specs.declared.LineValueAt.{LineValueAt}
use Rattle.line_parts.specs.Places.{line_at, line_value_at}
use Rattle.line_parts.proofs.LinePlaces.{LineTo, line_found, no_line}
use Rattle.line_parts.proofs.ValuePlaces.{value_there, value_missing}
use Rattle.line_data.specs.Places.{tagged_property, write_data}

module _ (s : List ℕ) where
  pub line_too_long : (b : List ℕ) → 16384 < length s → parse_line s b ≡ refused LineTooLong b
  unfolding parse_line max_line_octets
  line_too_long b h = rw (lt-leb (length s) 16384 h)

  module _ (fits : length s ≤ 16384) where
    unread : (b : List ℕ) → read_line s ≡ None → parse_line s b ≡ refused BadLine b
    unfolding parse_line max_line_octets
    unread b e = rw (le-leb (length s) 16384 fits, e)

    module _ (o : Option LineAt) (told : o ≡ line_at s) where
      pub wrong_fields : (b : List ℕ) → o ≡ None → parse_line s b ≡ refused BadLine b
      wrong_fields b g = unread b (no_line s o told g)

      module _ (l : LineAt) (g : o ≡ Some l) where
        to : LineTo s l
        to = line_found s o told l g

        pub tag_starts : l.tag ≤ l.end
        tag_starts = to.starts

        pub tag_ends : l.end ≤ length s
        tag_ends = to.inside

        pub value_begins : l.value ≤ length s
        value_begins = to.behind

        abbrev tag : List ℕ
        tag = take (l.end - l.tag) (drop l.tag s)

        abbrev field₃ : List ℕ
        field₃ = take (length s - l.value) (drop l.value s)

        third : field₃ ≡ drop l.value s
        third = rest_whole s l.value

        -- by what the value says
        by_value : (w : Option (List ℕ)) → line_value field₃ ≡ w → read_line s ≡ property_of (Some l.flags) tag w
        by_value w e = to.read ∙ rw (← third, e)

        short_tag : length tag ≤ max_tag_octets
        unfolding is_line_tag
        short_tag =
            let (front, letters) = (and-eq-true_iff (not (is_empty tag) && leb (length tag) max_tag_octets) (all is_letter_or_digit tag)).0 to.tag in
            leb-true (length tag) max_tag_octets ((and-eq-true_iff (not (is_empty tag)) (leb (length tag) max_tag_octets)).0 front).1

        module _ (q : Option LineValueAt) (read : q ≡ line_value_at field₃) where
          pub wrong_value : (b : List ℕ) → q ≡ None → parse_line s b ≡ refused BadLine b
          wrong_value b e = unread b (by_value None (value_missing field₃ q read e))

          module _ (p : LineValueAt) (e : q ≡ Some p) where
            abbrev units : List ℕ
            units = take (p.end - p.from) (drop p.from field₃)

            by_units : (w : Option (List ℕ)) → unescaped (plain_in p.style) units ≡ w → read_line s ≡ property_of (Some l.flags) tag w
            by_units w h = by_value w ((value_there field₃ q read p e).read ∙ h)

            -- a good tag is short enough for its length octet
            as_written_lem : (b : List ℕ) (w : Option (List ℕ)) → read_of (property_of (Some l.flags) tag w) b ≡ read_of (tagged_property l.flags tag w) b
            as_written_lem b None = refl
            as_written_lem b (Some v) = rw (to.tag, le-leb (length tag) max_tag_octets short_tag)

            is_passed : (b : List ℕ) → parse_line s b ≡ write_data l.flags tag p.style units b
            unfolding parse_line max_line_octets write_data
            is_passed b = rw (le-leb (length s) 16384 fits, by_units (unescaped (plain_in p.style) units) refl) (as_written_lem b (unescaped (plain_in p.style) units))

            pub passed_answer : (b : List ℕ) (m : Result ℕ Refusal) → m ≡ (write_data l.flags tag p.style units b).answer → m ≡ (parse_line s b).answer
            passed_answer b m e = rw (is_passed b) e

            pub passed_octets : (b x : List ℕ) → x ≡ (write_data l.flags tag p.style units b).buffer → x ≡ (parse_line s b).buffer
            passed_octets b x e = rw (is_passed b) e
