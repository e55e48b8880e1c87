-- Steps of a loop from item to item: what is left of a list of methods, and whether the method was found before.
use Prim.Native.Nat.{ℕ, ◌+◌, ◌-◌, ◌≤◌, ◌<◌}
use Prim.Native.Char.{code}
use native.Mathlib.Omega.{arith}
use mathlib.Core.Path.{◌≡◌, refl, sym, ◌∙◌}
use mathlib.Core.Logic.{⊎_elim}
use mathlib.Core.Bool.{Bool, true, false, not, ◌&&◌, ◌||◌, or-false, or-true}
use mathlib.Core.List.{List, [], ◌∷◌}
use lib.Dec.{ltb}
use lib.ListN.{length, take, drop}
use borrow.Author.Tests.{ltb-true, ltb-false}
use Rattle.spec_octets.specs.Lists.{any, is_empty}
use Rattle.spec_octets.specs.Octets.{same}
use Rattle.spec_octets.specs.Pieces.{split}
use Rattle.spec_octets.proofs.ListLaws.{true_or_false}
use Rattle.text_labels.specs.Places.{piece_end}
use Rattle.text_labels.proofs.PieceWalk.{pieces_more, pieces_last}
use Rattle.read_methods.specs.Methods.{names_method_in}

-- No item is empty, and the method was found before or is one of them.
abbrev pub from_items : List ℕ → Bool → List (List ℕ) → Bool
from_items m found items = not (any is_empty items) && (found || any (same m) items)

none_empty : (m x : List ℕ) → length x ≡ 0 → (f : Bool) (is : List (List ℕ)) → from_items m f (x ∷ is) ≡ false
none_empty m [] e f is = refl
none_empty m (y ∷ x) e f is = absurd (omega arith)

one_item : (m x : List ℕ) → (length x ≡ 0 → ⊥) → (f : Bool) (is : List (List ℕ)) → from_items m f (x ∷ is) ≡ from_items m (f || same m x) is
one_item m [] some f is = absurd (some refl)
one_item m (y ∷ x) some f is = go f (same m (y ∷ x))
  where
    go : (f t : Bool) → (not (any is_empty is) && (f || (t || any (same m) is))) ≡ (not (any is_empty is) && ((f || t) || any (same m) is))
    go true t = refl
    go false t = refl

nothing_left : (m : List ℕ) (f : Bool) → from_items m f [] ≡ f
nothing_left m true = refl
nothing_left m false = refl

-- x is the item at the offset `at`, which ends at e
module _ (m s : List ℕ) (at e : ℕ) (cut : e ≡ piece_end (code ",") s at) (f : Bool)
    (left : names_method_in m s ≡ from_items m f (split (code ",") (drop at s))) (x : List ℕ) (part : x ≡ take (e - at) (drop at s)) where
  pub item_empty : length x ≡ 0 → false ≡ names_method_in m s
  item_empty none = sym (left ∙ ⊎_elim
      (λ h. rw (pieces_more (code ",") s at e cut (e + 1) (ltb-true e (length s) h) refl, ← part) (none_empty m x none f (split (code ",") (drop (e + 1) s))))
      (λ h. rw (pieces_last (code ",") s at e cut (ltb-false e (length s) h), ← part) (none_empty m x none f []))
      (true_or_false (ltb e (length s))))

  module _ (some : length x ≡ 0 → ⊥) (r : Bool) (told : r ≡ same m x) where
    last_item : length s ≤ e → names_method_in m s ≡ (f || r)
    last_item h = left ∙ rw (pieces_last (code ",") s at e cut h, ← part, told) (one_item m x some f [] ∙ nothing_left m (f || same m x))

    next_item : (j : ℕ) → e < length s → j ≡ e + 1 → names_method_in m s ≡ from_items m (f || r) (split (code ",") (drop j s))
    next_item j h next = left ∙ rw (pieces_more (code ",") s at e cut j h next, ← part, told) (one_item m x some f (split (code ",") (drop j s)))

    -- g says whether the method was found so far
    module _ (g : Bool) where
      pub found_last : r ≡ true → g ≡ true → length s ≤ e → g ≡ names_method_in m s
      found_last t k h = k ∙ sym (last_item h ∙ rw (t, or-true))

      pub other_last : r ≡ false → g ≡ f → length s ≤ e → g ≡ names_method_in m s
      other_last t k h = k ∙ sym (last_item h ∙ rw (t, or-false))

      pub found_next : (j : ℕ) → r ≡ true → g ≡ true → e < length s → j ≡ e + 1 → names_method_in m s ≡ from_items m g (split (code ",") (drop j s))
      found_next j t k h next = next_item j h next ∙ rw (t, or-true, k)

      pub other_next : (j : ℕ) → r ≡ false → g ≡ f → e < length s → j ≡ e + 1 → names_method_in m s ≡ from_items m g (split (code ",") (drop j s))
      other_next j t k h next = next_item j h next ∙ rw (t, or-false, k)
