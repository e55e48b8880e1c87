-- The loop of are_host_labels: the labels from an offset on give the result for the whole name.
use Prim.Native.Nat.{ℕ, ◌≤◌, ◌<◌, ◌+◌, ◌-◌}
use native.Mathlib.Omega.{arith}
use mathlib.Core.Path.{◌≡◌, sym, ap, ◌∙◌}
use mathlib.Core.Bool.{Bool, true, false, not, ◌&&◌, ◌||◌, and-true, and-false, or-true, or-false}
use mathlib.Core.List.{List, [], ◌∷◌, ◌++◌, append-nil}
use lib.Dec.{ltb}
use lib.ListN.{length, take, drop}
use borrow.Author.Tests.{lt-ltb, le-leb}
use Rattle.spec_octets.specs.Lists.{All, all, is_empty}
use Rattle.spec_limits.specs.Limits.{max_label_octets}
use Rattle.spec_octets.specs.Label.{is_label, is_host_label}
use Rattle.spec_octets.proofs.ListLaws.{All-head, All-tail}
use Rattle.spec_name.specs.Names.{Label, Name, wire, GoodName}
use Rattle.read_name.specs.Places.{parent_place}
use Rattle.spec_name.proofs.NameLaws.{GoodLabel}
use Rattle.read_name.proofs.Parents.{root_stays, behind_label, label_octets_lem, label_passed}

abbrev pub is_host_name : Name → Bool
is_host_name n = not (is_empty n) && all is_host_label n

-- these labels are left of the name n, which x is, from `at` on
pub record LabelsLeft (x : List ℕ) (n : Name) (at : ℕ) : Type 0 where
  pub left : Name
  pub stands : drop at x ≡ wire left ++ []
  pub good : All GoodLabel left
  pub same : is_host_name n ≡ (ltb 0 at || not (is_empty left)) && all is_host_label left

module _ (x : List ℕ) (n : Name) where
  pub labels_start : (at : ℕ) → at ≡ 0 → GoodName n → x ≡ wire n → LabelsLeft x n at
  labels_start at z g e = record { left = n; stands = rw (z, append-nil) e; good = g.0; same = rw z }

  module _ (at : ℕ) (w : LabelsLeft x n at) (next : ℕ) (up : next ≡ parent_place x at) where
    pub labels_end : next ≤ at → ltb 0 at ≡ is_host_name n
    labels_end h = sym (w.same ∙ go w.left w.stands w.good)
      where
        go : (left : Name) → drop at x ≡ wire left ++ [] → All GoodLabel left → (ltb 0 at || not (is_empty left)) && all is_host_label left ≡ ltb 0 at
        go [] e g = rw (or-false, and-true)
        go (l ∷ ls) e g = absurd (omega (arith, label_passed x at l ls [] e (All-head g).0))

    -- r is what is said of the label there, which the name's wire form keeps within its limit
    module _ (h : at < next) (part : List ℕ) (r : Bool) (is : part ≡ take (next - (at + 1)) (drop (at + 1) x)) (told : r ≡ is_label part) where
      label : (l : Label) (ls : Name) → drop at x ≡ wire (l ∷ ls) ++ [] → GoodLabel l → (next ≡ at + 1 + length l) × (is_host_label l ≡ r)
      unfolding is_host_label
      label l ls e g =
          let place : next ≡ at + 1 + length l = up ∙ label_passed x at l ls [] e g.0 in
          let long : next - (at + 1) ≡ length l = omega arith in
          (place, rw (le-leb (length l) max_label_octets g.1) (sym (told ∙ ap is_label (is ∙ rw long (label_octets_lem x at l ls [] e)))))

      pub labels_stop : r ≡ false → false ≡ is_host_name n
      labels_stop t = sym (w.same ∙ go w.left w.stands w.good)
        where
          go : (left : Name) → drop at x ≡ wire left ++ [] → All GoodLabel left → (ltb 0 at || not (is_empty left)) && all is_host_label left ≡ false
          go [] e g = absurd (omega (arith, root_stays x at [] e))
          go (l ∷ ls) e g = rw ((label l ls e (All-head g)).1, t, and-false)

      pub labels_turn : r ≡ true → LabelsLeft x n next
      labels_turn t = go w.left w.stands w.good w.same
        where
          go : (left : Name) → drop at x ≡ wire left ++ [] → All GoodLabel left →
              is_host_name n ≡ (ltb 0 at || not (is_empty left)) && all is_host_label left → LabelsLeft x n next
          go [] e g f = absurd (omega (arith, root_stays x at [] e))
          go (l ∷ ls) e g f =
              let (place, told) = label l ls e (All-head g) in
              record {
                left = ls;
                stands = rw place (behind_label x at l ls [] e);
                good = All-tail g;
                same = f ∙ rw (told, t, or-true, lt-ltb 0 next (omega arith));
              }
