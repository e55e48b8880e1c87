-- How many labels are taken off: the count of empty lookups is the place of the nearest name, and it is below the labels of a name.
use Prim.Native.Nat.{ℕ, zero, suc, ◌+◌, ◌≤◌, ◌<◌}
use native.Mathlib.Nat.{not-suc-le-zero}
use native.Mathlib.Omega.{arith}
use mathlib.Core.Path.{◌≡◌, refl, sym, ap, ◌∙◌}
use mathlib.Core.Logic.{◌≢◌}
use mathlib.Core.Bool.{true≢false}
use mathlib.Core.List.{List, [], ◌∷◌, map}
use lib.ListN.{length, drop, length-append}
use Rattle.spec_limits.specs.Limits.{max_name_octets}
use Rattle.spec_octets.specs.Lists.{All, all_nil, all_cons}
use Rattle.spec_name.specs.Names.{Name, wire, ancestors, GoodName}
use Rattle.spec_name.proofs.NameLaws.{GoodLabel}
use Rattle.spec_request.specs.Request.{base}
use Rattle.spec_request.proofs.RequestedNames.{good_base}
use Rattle.spec_rule.specs.RelevantSet.{CaaRecord, Book, Lookup, empty, found, endless, lookup, empty_before, relevant_set, labels_off}
use Rattle.spec_rule.specs.Meaning.{NearestAt, DecidedAt}
use Rattle.spec_rule.specs.Theorems.{LabelsTakenOff, DecidedOnce, UpBelowLabels}
use Rattle.spec_rule.proofs.Nearest.{nearest_name_decides}

-- a lookup that is not empty ends the count
none_before : (f : Lookup) → f ≢ empty → (ls : List Lookup) → empty_before (f ∷ ls) ≡ 0
none_before empty h ls = absurd (h refl)
none_before (found rs) h ls = refl
none_before (endless r) h ls = refl

module _ (book : Book) where
  pub counted : (x : Name) (k : ℕ) (l : Lookup) → NearestAt book x k l → labels_off book x ≡ k
  unfolding labels_off
  counted [] k l h = absurd (not-suc-le-zero h.0)
  counted (y ∷ x) zero l (less, e, n, none_below) = none_before (lookup book (y ∷ x)) (λ f. n (sym e ∙ f)) (map (lookup book) (ancestors x))
  counted (y ∷ x) (suc k) l (less, e, n, none_below) =
      rw (none_below 0 (omega arith)) (ap suc (counted x k l (omega arith, e, n, λ j h. none_below (suc j) (omega arith))))

  all_counted : (x : Name) → ((j : ℕ) → j < length x → lookup book (drop j x) ≡ empty) → labels_off book x ≡ length x
  unfolding labels_off
  all_counted [] h = refl
  all_counted (y ∷ x) h = rw (h 0 (omega arith)) (ap suc (all_counted x (λ j less. h (suc j) (omega arith))))

  nearest_counted : (x : Name) (l : Lookup) → l ≢ empty → relevant_set book x ≡ l → NearestAt book x (labels_off book x) l
  nearest_counted x l h e =
      let (k, near) = ((nearest_name_decides book x).0 l h).0 e in
      rw (counted x k l near) near

  -- a name for which anything is found is decided where the count says, and nowhere else
  module _ (n : Name) where
    abbrev pub taken_off : ℕ
    taken_off = labels_off book (base n)

    pub decided_found : (rs : List CaaRecord) → relevant_set book (base n) ≡ found rs → DecidedAt book n taken_off
    decided_found rs e = (found rs, nearest_counted (base n) (found rs) (λ (h : found rs ≡ empty). true≢false (cc)) e)

    pub decided_endless : (r : ℕ) → relevant_set book (base n) ≡ endless r → DecidedAt book n taken_off
    decided_endless r e = (endless r, nearest_counted (base n) (endless r) (λ (h : endless r ≡ empty). true≢false (cc)) e)

    pub decided_there : {u : ℕ} → DecidedAt book n u → taken_off ≡ u
    decided_there {u} (l, near) = counted (base n) u l near

pub labels_taken_off : LabelsTakenOff
labels_taken_off book x = (
  λ k l h. (
    λ near. (counted book x k l near, ((nearest_name_decides book x).0 l h).1 (k, near)),
    λ (c, e). rw (← c) (nearest_counted book x l h e),
  ),
  λ e. all_counted book x ((nearest_name_decides book x).1.0 e),
)

pub decided_once : DecidedOnce
decided_once book n u w h k = sym (decided_there book n h) ∙ decided_there book n k

-- a label takes two octets or more, and the closing zero is one more
two_octets_each : (n : Name) → All GoodLabel n → length n + length n < length (wire n)
two_octets_each [] all_nil = omega arith
two_octets_each (l ∷ n) (all_cons g gs) = let ih = two_octets_each n gs in simp length-append (omega arith)

few_labels : (n : Name) → GoodName n → length n ≤ 127
unfolding max_name_octets
few_labels n (gs, short) = omega (arith, two_octets_each n gs)

pub up_below_labels : UpBelowLabels
up_below_labels book n u (l, near) = (near.0, λ good. omega (arith, near.0, few_labels (base n) (good_base n good)))
