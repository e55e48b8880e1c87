-- The loop of name_end: reading on from offset p gives the result for the name at `at`. A law for each return in the loop.
use Rattle.std.specs.Prelude.{Option, None, Some}
use Prim.Native.Nat.{ℕ, zero, suc, ◌≤◌, ◌<◌, ◌+◌, ◌-◌}
use native.Mathlib.Nat.{le_of_lt, zero-add, sub_self}
use native.Mathlib.Omega.{arith}
use mathlib.Core.Path.{◌≡◌, refl, sym, ap, ◌∙◌}
use mathlib.Core.Bool.{Bool, true, false, cond}
use mathlib.Core.List.{List, [], ◌∷◌}
use lib.Dec.{leb}
use lib.ListN.{length, drop, take, get_or, length-append, length-drop, drop_of_length-le}
use lib.Seq.{drop-drop, length-take-le}
use borrow.Author.Tests.{leb-true, leb-false, le-leb, lt-leb, ne_eqb}
use Rattle.spec_limits.specs.Limits.{max_label_octets, max_name_octets}
use Rattle.spec_octets.specs.Reader.{pure, given, and_then}
use Rattle.spec_octets.proofs.Walks.{drop_step}
use Rattle.spec_name.specs.Names.{Label, Name, wire, labels, name}
use Rattle.read_name.specs.Places.{end_of, name_end}
use Rattle.spec_name.proofs.NameLaws.{fewer_labels}

none_left : (k : ℕ) → labels k [] ≡ None
none_left zero = refl
none_left (suc k) = refl

long_label : (k x : ℕ) (t : List ℕ) → max_label_octets < x → labels k (x ∷ t) ≡ None
long_label zero x t h = refl
long_label (suc k) x t h = rw (ne_eqb x 0 (λ e. omega arith), lt-leb x max_label_octets h)

module _ (s : List ℕ) where
  -- where the name ends that has these labels behind `used` octets
  abbrev pub end_within : ℕ → Option (Name × List ℕ) → Option ℕ
  end_within used None = None
  end_within used (Some r) = cond (leb (used + length (wire r.0)) max_name_octets) (Some (length s - length r.1)) None

  whole : (o : Option (Name × List ℕ)) → end_of s (and_then o (λ n. given (leb (length (wire n)) max_name_octets) n)) ≡ end_within 0 o
  whole None = refl
  whole (Some r) = rw zero-add (either (leb (length (wire r.0)) max_name_octets))
    where
      either : (t : Bool) → end_of s (given t r.0 r.1) ≡ cond t (Some (length s - length r.1)) None
      either true = refl
      either false = refl

  module _ (used : ℕ) where
    too_long : (o : Option (Name × List ℕ)) → max_name_octets ≤ used → end_within used o ≡ None
    too_long None h = refl
    too_long (Some r) h = rw (lt-leb (used + length (wire r.0)) max_name_octets (omega (arith, fewer_labels r.0)))

    one_more_lem : (l : Label) (o : Option (Name × List ℕ)) → end_within used (and_then o (λ ls. pure (l ∷ ls))) ≡ end_within (used + 1 + length l) o
    one_more_lem l None = refl
    one_more_lem l (Some r) =
        let e : used + length (wire (l ∷ r.0)) ≡ used + 1 + length l + length (wire r.0) = simp length-append (omega arith) in
        rw e

    module _ (x : ℕ) (t : List ℕ) where
      closed : (k : ℕ) → max_name_octets ≤ k + used → used < max_name_octets → x ≡ 0 → end_within used (labels k (x ∷ t)) ≡ Some (length s - length t)
      closed zero e h z = absurd (omega arith)
      closed (suc k) e h z = rw (z, le-leb (used + 1) max_name_octets (omega arith))

      -- also of a label longer than what is left: its octets are not there, and nothing is left behind it
      label_read :
          (k : ℕ) → (x ≡ 0 → ⊥) → x ≤ max_label_octets → end_within used (labels (suc k) (x ∷ t)) ≡ end_within (used + 1 + x) (labels k (drop x t))
      label_read k n h = go (leb x (length t)) refl
        where
          go : (b : Bool) → leb x (length t) ≡ b → end_within used (labels (suc k) (x ∷ t)) ≡ end_within (used + 1 + x) (labels k (drop x t))
          go true e =
              let fits = length-take-le x t (leb-true x (length t) e) in
              rw (ne_eqb x 0 n, le-leb x max_label_octets h, e, one_more_lem (take x t) (labels k (drop x t)), fits)
          go false e =
              let nothing = drop_of_length-le t (le_of_lt (leb-false x (length t) e)) in
              rw (ne_eqb x 0 n, le-leb x max_label_octets h, e, nothing, none_left k)

-- what is left of s from p on gives the answer asked at `at`; `room` falls by one for each label, and each takes more than one octet of
-- the limit, so it never runs out first
pub record Onward (s : List ℕ) (at p : ℕ) : Type 0 where
  pub passed : at ≤ p
  pub room : ℕ
  pub enough : max_name_octets ≤ room + (p - at)
  pub same : name_end s at ≡ end_within s (p - at) (labels room (drop p s))

pub start : (s : List ℕ) (at p : ℕ) → p ≡ at → Onward s at p
unfolding name name_end
start s at p e = record {
  passed = omega arith;
  room = max_name_octets;
  enough = omega arith;
  same = rw (e, sub_self) (whole s (labels max_name_octets (drop at s)));
}

module _ (s : List ℕ) (at p : ℕ) (o : Onward s at p) where
  pub out : length s ≤ p → None ≡ name_end s at
  out h = rw (o.same, drop_of_length-le s h, none_left o.room)

  pub name_too_long : (q : ℕ) → q ≡ p + 1 → max_name_octets < q - at → None ≡ name_end s at
  name_too_long q f g = sym (o.same ∙ too_long s (p - at) (labels o.room (drop p s)) (omega arith))

  module _ (x : ℕ) (h : p < length s) (e : x ≡ get_or s p 0) where
    front : drop p s ≡ x ∷ drop (p + 1) s
    front = drop_step 0 s p (p + 1) h refl ∙ rw e

    pub label_too_long : max_label_octets < x → None ≡ name_end s at
    label_too_long g = rw (o.same, front, long_label o.room x (drop (p + 1) s) g)

    module _ (q : ℕ) (f : q ≡ p + 1) where
      pub name_closed : q - at ≤ max_name_octets → x ≡ 0 → Some q ≡ name_end s at
      name_closed g z =
          rw (o.same, front, closed s (p - at) x (drop (p + 1) s) o.room o.enough (omega arith) z, length-drop) (ap Some (omega arith))

      pub label_passed :
          (r : ℕ) → q - at ≤ max_name_octets → (x ≡ 0 → ⊥) → x ≤ max_label_octets → r ≡ q + x → Onward s at r
      label_passed r g n l d = go o.room o.enough o.same
        where
          go : (room : ℕ) → max_name_octets ≤ room + (p - at) → name_end s at ≡ end_within s (p - at) (labels room (drop p s)) → Onward s at r
          go zero u w = absurd (omega arith)
          go (suc room) u w = record {
            passed = omega arith;
            room = room;
            enough = omega arith;
            same =
                let v : p - at + 1 + x ≡ r - at = omega arith in
                rw (w, front, label_read s (p - at) x (drop (p + 1) s) room n l, v, drop-drop, ← f, ← d);
          }
