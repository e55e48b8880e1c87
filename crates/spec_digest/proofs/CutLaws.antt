-- Pieces of one size, cut off the front of a list.
use Prim.Native.Nat.{ℕ, zero, suc, ◌+◌, ◌*◌, ◌≤◌, ◌<◌}
use native.Mathlib.Nat.{zero-add, zero-mul, suc-add}
use native.Mathlib.Numerals.{add-one}
use native.Mathlib.Omega.{arith}
use mathlib.Core.Path.{◌≡◌, refl, sym, ap, ap₂, ◌∙◌}
use mathlib.Core.List.{List, [], ◌∷◌, ◌++◌, map, map-append}
use lib.ListN.{length, take, drop, set, length-drop, take-append-drop}
use lib.Seq.{length-take-le, take-nil, drop-nil, take-take, drop-drop, take-suc-set}
use Rattle.spec_octets.specs.Lists.{All, all_nil, all_cons, flatten}
use Rattle.spec_octets.specs.Reader.{value_from}
use Rattle.spec_octets.proofs.ListLaws.{All-front, All-rest}
use Rattle.spec_digest.specs.Padding.{cut}

-- what is behind the first m of the first m + k
pub drop_take : (m k : ℕ) (s : List ℕ) → drop m (take (m + k) s) ≡ take k (drop m s)
drop_take zero k s = rw zero-add
drop_take (suc m) k [] = rw (take-nil, drop-nil, take-nil)
drop_take (suc m) k (x ∷ s) = rw suc-add (drop_take m k s)

module _ (size : ℕ) where
  pub length_cut : (count : ℕ) (s : List ℕ) → length (cut count size s) ≡ count
  length_cut zero s = refl
  length_cut (suc count) s = ap suc (length_cut count (drop size s))

  pub flatten_cut : (count : ℕ) (s : List ℕ) → length s ≡ count * size → flatten (cut count size s) ≡ s
  flatten_cut zero [] h = refl
  flatten_cut zero (x ∷ s) h = absurd (omega arith)
  flatten_cut (suc count) s h =
      ap (λ (l : List ℕ). take size s ++ l) (flatten_cut count (drop size s) (rw length-drop (omega arith))) ∙ take-append-drop size s

  pub pieces_long : (count : ℕ) (s : List ℕ) → count * size ≤ length s → All (λ b. length b ≡ size) (cut count size s)
  pieces_long zero s h = all_nil
  pieces_long (suc count) s h =
      all_cons (length-take-le size s (omega arith)) (pieces_long count (drop size s) (rw length-drop (omega arith)))

  -- what holds of every part of a list holds of its pieces
  pub pieces_all : {P : ℕ → Type 0} (count : ℕ) (s : List ℕ) → All P s → All (λ b. All P b) (cut count size s)
  pieces_all zero s h = all_nil
  pieces_all {P} (suc count) s h =
      let parts : All P (take size s ++ drop size s) = rw take-append-drop h in
      all_cons (All-front (take size s) (drop size s) parts) (pieces_all count (drop size s) (All-rest (take size s) (drop size s) parts))

  -- only the front is cut
  pub cut_front : (count : ℕ) (s : List ℕ) → cut count size (take (count * size) s) ≡ cut count size s
  cut_front zero s = refl
  cut_front (suc count) s =
      let more : suc count * size ≡ size + count * size = omega arith in
      rw (more, take-take size (size + count * size) s (omega arith), drop_take)
      (ap (λ (l : List (List ℕ)). take size s ∷ l) (cut_front count (drop size s)))

  -- one piece more, at the end
  pub cut_snoc : (count : ℕ) (s : List ℕ) → cut (suc count) size s ≡ cut count size s ++ (take size (drop (count * size) s) ∷ [])
  cut_snoc zero s = rw zero-mul
  cut_snoc (suc count) s =
      let more : suc count * size ≡ size + count * size = omega arith in
      ap (λ (l : List (List ℕ)). take size s ∷ l) (cut_snoc count (drop size s) ∙ rw (more, drop-drop (count * size) size s))

-- loading words: word t is the value of piece t
pub words_turn :
    (n : ℕ) (b ws : List ℕ) (t x : ℕ) → take t ws ≡ map (value_from 0) (cut t n b) → t < length ws → x ≡ value_from 0 (take n (drop (t * n) b)) →
    take (t + 1) (set ws t x) ≡ map (value_from 0) (cut (t + 1) n b)
words_turn n b ws t x before h e =
    rw add-one
    (take-suc-set ws t x h ∙ ap₂ (λ (l : List ℕ) (y : ℕ). l ++ (y ∷ [])) before e
    ∙ sym (map-append (value_from 0) (cut t n b) (take n (drop (t * n) b) ∷ [])) ∙ ap (map (value_from 0)) (sym (cut_snoc n t b)))
