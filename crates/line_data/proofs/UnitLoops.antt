-- Loops over written octets: counting the octets that they stand for, and writing these.
use Rattle.std.specs.Prelude.{Option, None, Some}
use Prim.Native.Nat.{ℕ, ◌+◌, ◌≤◌, ◌<◌, ◌^◌}
use native.Mathlib.Nat.{zero-add}
use native.Mathlib.Numerals.{add-one}
use native.Mathlib.Omega.{arith}
use mathlib.Core.Path.{◌≡◌, refl, sym, ap, ◌∙◌}
use mathlib.Core.Bool.{true, false≢true}
use mathlib.Core.List.{List, [], ◌∷◌, ◌++◌, append-nil}
use lib.ListN.{length, take, set, length-append, length-set}
use lib.Seq.{take-suc-set}
use mir.Syntax.{w64}
use mir.Val.{Fits}
use Rattle.spec_octets.specs.Buffer.{Put}
use Rattle.text_buffer.proofs.LentRest.{put_octet}
use Rattle.spec_line.specs.Read.{unescaped}
use Rattle.line_octet.specs.declared.Style.{Style}
use Rattle.line_octet.specs.declared.WrittenOctetAt.{WrittenOctetAt}
use Rattle.line_octet.specs.Places.{plain_in, written_octet_at}
use Rattle.line_octet.proofs.UnitWalk.{joined, joined_twice, unescaped_left, left_over, UnitTo, unit_there, unit_missing}
use Rattle.line_data.specs.Places.{count_read, unescaped_count, is_escaped_text, unescaped_octets}

-- Counting them: n before the place.

abbrev pub count_left : ℕ → Option (List ℕ) → Option ℕ
count_left n None = None
count_left n (Some v) = Some (n + length v)

pub record Counted (style : Style) (s : List ℕ) (at n : ℕ) : Type 0 where
  pub few : n ≤ at
  pub inside : at ≤ length s
  pub same : unescaped_count style s ≡ count_left n (unescaped_left style s at)

pub count_start : (style : Style) (s : List ℕ) → Counted style s 0 0
unfolding unescaped_count
count_start style s = record { few = omega arith; inside = omega arith; same = go (unescaped (plain_in style) s) }
  where
    go : (o : Option (List ℕ)) → count_read o ≡ count_left 0 o
    go None = refl
    go (Some v) = rw zero-add

module _ {style : Style} {s : List ℕ} {at n : ℕ} (w : Counted style s at n) where
  pub count_end : length s ≤ at → Some n ≡ unescaped_count style s
  count_end h = sym (w.same ∙ rw (left_over style s at h) (ap Some (omega arith)))

  module _ (o : Option WrittenOctetAt) (h : at < length s) (told : o ≡ written_octet_at style s at) where
    pub count_fault : o ≡ None → None ≡ unescaped_count style s
    count_fault g = sym (w.same ∙ rw (unit_missing style s at o told h g))

    pub count_turn : (p : WrittenOctetAt) → o ≡ Some p → Counted style s p.next (n + 1)
    count_turn p g = go (unit_there style s at o told p g)
      where
        more : (q : Option (List ℕ)) → count_left n (joined (p.octet ∷ []) q) ≡ count_left (n + 1) q
        more None = refl
        more (Some v) = ap Some (omega arith)

        go : UnitTo style s at p → Counted style s p.next (n + 1)
        go k = record {
          few = omega (arith, w.few, k.onward);
          inside = k.inside;
          same = w.same ∙ rw k.left (more (unescaped_left style s p.next));
        }

-- Putting them: w octets into what was the buffer d and is now x.

pub record Filled (style : Style) (s d x : List ℕ) (at w : ℕ) : Type 0 where
  pub long : length x ≡ length d
  pub put : Put (take w x) d x w
  pub same : unescaped (plain_in style) s ≡ joined (take w x) (unescaped_left style s at)

pub fill_start : (style : Style) (s d : List ℕ) → Filled style s d d 0 0
fill_start style s d = record { long = refl; put = record { count = refl; octets = refl }; same = go (unescaped (plain_in style) s) }
  where
    go : (o : Option (List ℕ)) → o ≡ joined [] o
    go None = refl
    go (Some v) = refl

module _ {style : Style} {s d x : List ℕ} {at w : ℕ} (f : Filled style s d x at w) where
  pub fill_end : length s ≤ at → Put (unescaped_octets style s) d x w
  fill_end h =
      let all : unescaped (plain_in style) s ≡ Some (take w x) = f.same ∙ rw (left_over style s at h, append-nil) in
      rw all f.put

  module _ (units : is_escaped_text style s ≡ true) (o : Option WrittenOctetAt) (h : at < length s) (told : o ≡ written_octet_at style s at) where
    pub fill_fault : o ≡ None → Put (unescaped_octets style s) d x w
    fill_fault g =
        let missing : unescaped (plain_in style) s ≡ None = f.same ∙ rw (unit_missing style s at o told h g) in
        absurd (false≢true (rw missing at units))

    module _ (p : WrittenOctetAt) (g : o ≡ Some p) (room : length (unescaped_octets style s) ≤ length d) where
      next_same : unescaped (plain_in style) s ≡ joined (take w x ++ (p.octet ∷ [])) (unescaped_left style s p.next)
      next_same = f.same ∙ rw (unit_there style s at o told p g).left (joined_twice (take w x) (p.octet ∷ []) (unescaped_left style s p.next))

      pub fill_room : w < length x
      fill_room = go (unescaped_left style s p.next) next_same
        where
          go : (q : Option (List ℕ)) → unescaped (plain_in style) s ≡ joined (take w x ++ (p.octet ∷ [])) q → w < length x
          go None e = absurd (false≢true (rw e at units))
          go (Some v) e =
              let long = rw (e, length-append, length-append) at room in
              omega (arith, f.long, f.put.count)

      pub fill_fits : length d < 2 ^ 64 → Fits w64 (w + 1)
      fill_fits l = record { fits = omega (arith, fill_room, f.long) }

      pub fill_turn : Filled style s d (set x w p.octet) p.next (w + 1)
      fill_turn =
          let grown : take (w + 1) (set x w p.octet) ≡ take w x ++ (p.octet ∷ []) = rw add-one (take-suc-set x w p.octet fill_room) in
          record {
            long = length-set x w p.octet ∙ f.long;
            put = put_octet f.put p.octet (take (w + 1) (set x w p.octet)) fill_room grown;
            same = rw grown next_same;
          }
