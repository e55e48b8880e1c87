-- The loop of label_above: what is left of the name gives the answer.
use Rattle.std.specs.Prelude.{Some, None}
use Prim.Native.Nat.{ℕ, suc, ◌+◌, ◌-◌, ◌≤◌, ◌<◌}
use native.Mathlib.Omega.{arith}
use mathlib.Core.Path.{◌≡◌, refl, ap, sym, ◌∙◌}
use mathlib.Core.List.{List, [], ◌∷◌, ◌++◌, append-nil}
use lib.Dec.{ltb}
use lib.ListN.{length, drop, length-drop}
use borrow.Author.Tests.{lt-ltb, le-ltb}
use Rattle.spec_octets.specs.Lists.{All}
use Rattle.spec_octets.proofs.ListLaws.{All-head, All-tail}
use Rattle.spec_name.specs.Names.{Name, wire, GoodName}
use Rattle.spec_name.proofs.NameLaws.{GoodLabel}
use Rattle.read_name.specs.Places.{parent_place}
use Rattle.read_name.proofs.Parents.{further, root_stays, behind_label, label_passed}
use Rattle.session_kept.specs.Places.{above_at}

-- these labels are left of x from `at` on, and as many are to be taken off as `left` says
pub record LabelsLeft (s : List ℕ) (x : Name) (up at left : ℕ) : Type 0 where
  pub rest : Name
  pub stands : drop at s ≡ wire rest ++ []
  pub good : All GoodLabel rest
  pub same : above_at (length s) x up ≡ above_at (length s) rest left

-- an offset with another behind it
pub at_inside : (s : List ℕ) (at next : ℕ) → next ≡ parent_place s at → at < next → at ≤ length s
at_inside s at next is h = omega (arith, further s at next is (λ e. omega arith))

module _ (s : List ℕ) (x : Name) (up : ℕ) where
  pub labels_start : (at left base : ℕ) → at ≡ base → left ≡ up → GoodName x → drop base s ≡ wire x → LabelsLeft s x up at left
  labels_start at left base e f g h = record { rest = x; stands = rw (e, append-nil) h; good = g.0; same = rw f }

  module _ (at left : ℕ) (w : LabelsLeft s x up at left) (next : ℕ) (is : next ≡ parent_place s at) where
    pub at_top : next ≤ at → None ≡ above_at (length s) x up
    unfolding above_at
    at_top h = sym (w.same ∙ go w.rest w.stands w.good)
      where
        go : (rest : Name) → drop at s ≡ wire rest ++ [] → All GoodLabel rest → above_at (length s) rest left ≡ None
        go [] e g = rw (le-ltb left 0 (omega arith))
        go (l ∷ ls) e g = absurd (omega (arith, label_passed s at l ls [] e (All-head g).0))

    module _ (h : at < next) where
      pub at_label : left ≡ 0 → (k : ℕ) → k ≡ length s - at → Some (record { offset = at; length = k }) ≡ above_at (length s) x up
      unfolding above_at
      at_label z k f = sym (w.same ∙ go w.rest w.stands w.good)
        where
          go : (rest : Name) → drop at s ≡ wire rest ++ [] → All GoodLabel rest → above_at (length s) rest left ≡ Some (record { offset = at; length = k })
          go [] e g = absurd (omega (arith, root_stays s at [] e))
          go (l ∷ ls) e g =
              let long = ap length (e ∙ append-nil (wire (l ∷ ls))) in
              let size : length (wire (l ∷ ls)) ≡ k = omega (arith, length-drop at s) in
              let from : length s - k ≡ at = omega (arith, at_inside s at next is h) in
              rw (z, lt-ltb 0 (length (l ∷ ls)) (omega arith)) (ap (λ i. Some (record { offset = length s - i; length = i })) size ∙ ap (λ o. Some (record { offset = o; length = k })) from)

      pub labels_turn : (left' : ℕ) → (left ≡ 0 → ⊥) → left' ≡ left - 1 → LabelsLeft s x up next left'
      unfolding above_at
      labels_turn left' nz f = go w.rest w.stands w.good w.same
        where
          go : (rest : Name) → drop at s ≡ wire rest ++ [] → All GoodLabel rest → above_at (length s) x up ≡ above_at (length s) rest left → LabelsLeft s x up next left'
          go [] e g same = absurd (omega (arith, root_stays s at [] e))
          go (l ∷ ls) e g same =
              let place : next ≡ at + 1 + length l = is ∙ label_passed s at l ls [] e (All-head g).0 in
              let more : left ≡ suc left' = omega arith in
              record { rest = ls; stands = rw place (behind_label s at l ls [] e); good = All-tail g; same = same ∙ rw (more, one_less left' (length ls)) refl }
            where
              one_less : (m n : ℕ) → ltb (suc m) (suc n) ≡ ltb m n
              one_less m n = lib.Dec.leb-suc-suc (suc m) n
