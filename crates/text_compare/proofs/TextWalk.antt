-- Two texts compared part by part. They are the same exactly when both parts are; one octet that differs is enough to tell them apart.
use Prim.Native.Nat.{ℕ, suc, zero, ◌+◌, ◌-◌, ◌≤◌, ◌<◌}
use native.Mathlib.Omega.{arith}
use mathlib.Core.Path.{◌≡◌, refl, sym, ap, ◌∙◌}
use mathlib.Core.Bool.{Bool, true, false, ◌&&◌, and-false, and-true, and_assoc, and-eq-true_iff}
use mathlib.Core.List.{List, [], ◌∷◌}
use lib.Dec.{eqb}
use lib.ListN.{length, get_or, take, drop, length-take, length-drop, drop_of_length-le, get_or-map}
use lib.Seq.{drop-drop}
use borrow.Author.Tests.{eqb-false, eq-eqb}
use Rattle.spec_octets.specs.Octets.{lower, equal_ignoring_case}
use Rattle.spec_octets.proofs.ListLaws.{not_passed}
use Rattle.spec_octets.proofs.Texts.{same_text}
use Rattle.spec_octets.proofs.WholeLists.{lengths_differ}
use Rattle.spec_octets.proofs.Walks.{drop_step, rest_whole}

pub lengths_first : (a b : List ℕ) → (length a ≡ length b → ⊥) → false ≡ equal_ignoring_case a b
lengths_first a b h = sym (lengths_differ lower equal_ignoring_case same_text a b h)

-- The octets at some index differ.
pub octet_differs : (a b : List ℕ) (i x y : ℕ) → x ≡ lower (get_or a i 0) → y ≡ lower (get_or b i 0) → (x ≡ y → ⊥) → false ≡ equal_ignoring_case a b
octet_differs a b i x y xe ye ne =
    sym (not_passed (equal_ignoring_case a b) (λ e. ne (
    xe ∙ sym (get_or-map lower a i 0) ∙ ap (λ s. get_or s i (lower 0)) ((same_text a b).0 e) ∙ get_or-map lower b i 0 ∙ sym ye
    )))

-- The octets at an index, whichever it is, and all octets.
pub octet_and_all : (a b : List ℕ) (i : ℕ) →
    equal_ignoring_case a b ≡ (eqb (lower (get_or a i 0)) (lower (get_or b i 0)) && equal_ignoring_case (drop 0 a) (drop 0 b))
octet_and_all a b i = go (eqb (lower (get_or a i 0)) (lower (get_or b i 0))) refl
  where
    go : (t : Bool) → eqb (lower (get_or a i 0)) (lower (get_or b i 0)) ≡ t → equal_ignoring_case a b ≡ (t && equal_ignoring_case a b)
    go true e = refl
    go false e = sym (octet_differs a b i (lower (get_or a i 0)) (lower (get_or b i 0)) refl refl (eqb-false _ _ e))

-- Both texts are cut at the same index.
same_parts : (k : ℕ) (a b : List ℕ) →
    equal_ignoring_case a b ≡ (equal_ignoring_case (take k a) (take k b) && equal_ignoring_case (drop k a) (drop k b))
unfolding equal_ignoring_case
same_parts zero a b = refl
same_parts (suc k) [] [] = refl
same_parts (suc k) [] (y ∷ b) = refl
same_parts (suc k) (x ∷ a) [] = refl
same_parts (suc k) (x ∷ a) (y ∷ b) = rw (same_parts k a b) (sym (and_assoc (eqb (lower x) (lower y)) _ _))

rest_same : (i : ℕ) (a b : List ℕ) → equal_ignoring_case a b ≡ true → equal_ignoring_case (drop i a) (drop i b) ≡ true
rest_same i a b e =
    ((and-eq-true_iff (equal_ignoring_case (take i a) (take i b)) (equal_ignoring_case (drop i a) (drop i b))).0 (sym (same_parts i a b) ∙ e)).1

regroup : (s t u : Bool) → (s && (t && u)) ≡ ((t && s) && u)
regroup true true u = refl
regroup true false u = refl
regroup false true u = refl
regroup false false u = refl

module _ (a b : List ℕ) (i : ℕ) where
  -- The parts between two indices, `&a[i..e]` and `&b[i..e]`.
  pub part_differs : (e : ℕ) (r : Bool) → r ≡ equal_ignoring_case (take (e - i) (drop i a)) (take (e - i) (drop i b)) → r ≡ false →
      false ≡ equal_ignoring_case a b
  part_differs e r part off =
      sym (same_parts i a b ∙ rw (same_parts (e - i) (drop i a) (drop i b), ← part, off, and-false))

  pub part_lengths : (e : ℕ) → length a ≡ length b → length (take (e - i) (drop i a)) ≡ length (take (e - i) (drop i b))
  part_lengths e long = simp (length-take, length-drop) (omega arith)

  module _ (long : length a ≡ length b) where
    -- The octets at an index, and the octets after them.
    octet_parts : (j : ℕ) → i < length a → j ≡ i + 1 →
        equal_ignoring_case (drop i a) (drop i b)
        ≡ (eqb (lower (get_or a i 0)) (lower (get_or b i 0)) && equal_ignoring_case (drop j a) (drop j b))
    unfolding equal_ignoring_case
    octet_parts j h next = rw (drop_step 0 a i j h next, drop_step 0 b i j (omega arith) next)

    pub nothing_left : length a ≤ i → equal_ignoring_case (drop i a) (drop i b) ≡ true
    unfolding equal_ignoring_case
    nothing_left h = rw (drop_of_length-le a h, drop_of_length-le b {i = i} (omega arith))

    -- Octet by octet: r says whether the octets at k are the same, and those from i on remain to be compared.
    module _ (k : ℕ) (r : Bool)
        (left : equal_ignoring_case a b ≡ (eqb (lower (get_or a k 0)) (lower (get_or b k 0)) && equal_ignoring_case (drop i a) (drop i b)))
        (told : r ≡ eqb (lower (get_or a k 0)) (lower (get_or b k 0))) where
      pub short_stop : r ≡ false → false ≡ equal_ignoring_case a b
      short_stop off = sym (left ∙ rw (← told, off))

      pub short_end : r ≡ true → i ≡ length a → true ≡ equal_ignoring_case a b
      short_end good h = sym (left ∙ rw (← told, good) (nothing_left (omega arith)))

      pub short_turn : (j : ℕ) → r ≡ true → i ≤ length a → (i ≡ length a → ⊥) → j ≡ i + 1 →
          equal_ignoring_case a b ≡ (eqb (lower (get_or a i 0)) (lower (get_or b i 0)) && equal_ignoring_case (drop j a) (drop j b))
      short_turn j good within more next = left ∙ rw (← told, good) (octet_parts j (omega arith) next)

    -- Without stopping at a difference: s says whether the octets so far are the same.
    module _ (s : Bool) (left : equal_ignoring_case a b ≡ (s && equal_ignoring_case (drop i a) (drop i b))) where
      pub once_turn : (r : Bool) (j x y : ℕ) → i < length a → x ≡ lower (get_or a i 0) → y ≡ lower (get_or b i 0) → r ≡ (eqb x y && s) →
          j ≡ i + 1 → equal_ignoring_case a b ≡ (r && equal_ignoring_case (drop j a) (drop j b))
      once_turn r j x y h xe ye re next =
          left ∙ rw (octet_parts j h next, re, xe, ye) (regroup s (eqb (lower (get_or a i 0)) (lower (get_or b i 0))) _)

      pub once_end : length a ≤ i → s ≡ equal_ignoring_case a b
      once_end h = sym (left ∙ rw (nothing_left h, and-true))

    -- Block by block: the texts are the same exactly when the remaining octets are. The octets from t on are known to be the same.
    module _ (left : equal_ignoring_case a b ≡ equal_ignoring_case (drop i a) (drop i b)) where
      pub block_turn : (e j : ℕ) (r : Bool) → r ≡ equal_ignoring_case (take (e - i) (drop i a)) (take (e - i) (drop i b)) → r ≡ true →
          e ≡ i + 16 → j ≡ i + 16 → equal_ignoring_case a b ≡ equal_ignoring_case (drop j a) (drop j b)
      block_turn e j r part good ends next =
          let there : i + (e - i) ≡ j = omega arith in
          left ∙ same_parts (e - i) (drop i a) (drop i b) ∙ rw (← part, good, drop-drop (e - i) i a, drop-drop (e - i) i b, there)

      pub blocks_end : (t : ℕ) (r : Bool) → r ≡ equal_ignoring_case (take (length a - t) (drop t a)) (take (length a - t) (drop t b)) →
          r ≡ true → t ≤ i → true ≡ equal_ignoring_case a b
      blocks_end t r part good h =
          let there : t + (i - t) ≡ i = omega arith in
          let whole : equal_ignoring_case (drop t a) (drop t b) ≡ true =
          rw (← rest_whole a t, ← rest_whole b t, ← long) (sym part ∙ good) in
          let rest = rest_same (i - t) (drop t a) (drop t b) whole in
          sym (left ∙ rw (drop-drop (i - t) t a, drop-drop (i - t) t b, there) at rest)

pub empty_same : (a b : List ℕ) → length a ≡ length b → length a ≡ 0 → true ≡ equal_ignoring_case a b
empty_same a b long none = sym (nothing_left a b 0 long (omega arith))

pub equal_octets : (x y : ℕ) → x ≡ y → true ≡ eqb (lower x) (lower y)
equal_octets x y e = sym (eq-eqb (lower x) (lower y) (ap lower e))
