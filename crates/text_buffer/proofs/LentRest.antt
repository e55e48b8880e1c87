-- A buffer filled from its start: each next piece is written to the rest of the buffer, or one octet at its offset.
use Prim.Native.Nat.{ℕ, ◌+◌, ◌-◌, ◌≤◌, ◌<◌}
use native.Mathlib.Numerals.{add-one}
use native.Mathlib.Omega.{arith}
use mathlib.Core.Path.{◌≡◌, refl, sym, ◌∙◌}
use mathlib.Core.List.{List, [], ◌∷◌, ◌++◌, append_assoc, append-nil}
use lib.ListN.{length, take, drop, set, length-append, length-drop, length-set, drop_of_length-le}
use lib.Seq.{take-append_seam, drop-append_seam, drop-drop, set_split}
use Rattle.spec_octets.proofs.Walks.{rest_whole}
use Rattle.spec_octets.specs.Buffer.{Put}

pub put_nothing : (d : List ℕ) → Put [] d d 0
put_nothing d = record { count = refl; octets = refl }

-- one octet and two at the front
module _ (a : ℕ) where
  pub put_one : (d : List ℕ) → 1 ≤ length d → Put (a ∷ []) d (set d 0 a) 1
  put_one [] h = absurd (omega arith)
  put_one (x ∷ d) h = record { count = refl; octets = refl }

  module _ (b : ℕ) where
    pub put_two : (d : List ℕ) → 2 ≤ length d → Put (a ∷ b ∷ []) d (set (set d 0 a) 1 b) 2
    put_two [] h = absurd (omega arith)
    put_two (x ∷ []) h = absurd (omega arith)
    put_two (x ∷ y ∷ d) h = record { count = refl; octets = refl }

-- how long the rest is that is lent
pub rest_room : (x : List ℕ) (w k : ℕ) → w + k ≤ length x → k ≤ length (take (length x - w) (drop w x))
rest_room x w k h = rw (rest_whole x w, length-drop w x) (omega arith)

-- an octet set leaves the length
pub set_length : (x d : List ℕ) (i b : ℕ) → length x ≡ length d → length (set x i b) ≡ length d
set_length x d i b same = length-set x i b ∙ same

pub set_kept : (z x d : List ℕ) (i b : ℕ) → length z ≡ length (set x i b) → length x ≡ length d → length z ≡ length d
set_kept z x d i b e same = e ∙ length-set x i b ∙ same

module _ {e d x : List ℕ} {w : ℕ} (p : Put e d x w) where
  -- e stands at the front, and behind it the rest is as it was
  front : take w x ≡ e
  front = rw (p.octets, p.count) (take-append_seam e _)

  rest : drop w x ≡ drop w d
  rest = rw (p.octets, p.count) (drop-append_seam e _)

  pub put_length : length e ≤ length d → length x ≡ length d
  put_length h = rw (p.octets, length-append, length-drop) (omega arith)

  module _ (f : List ℕ) (e' : List ℕ) (grown : e' ≡ e ++ f) where
    long : length e' ≡ w + length f
    long = rw (grown, length-append) (omega (arith, p.count))

    -- what follows the two pieces stays
    behind : e' ++ drop (length e') d ≡ e ++ (f ++ drop (length f) (drop w d))
    behind = rw (long, grown, append_assoc, drop-drop)

    -- what comes back from the function that was lent the rest
    pub put_more :
        (y : List ℕ) (n : ℕ) → Put f (take (length x - w) (drop w x)) y n →
        Put e' d (take w x ++ (y ++ drop (length x - w) (drop w x))) (w + n)
    put_more y n q = record {
      count = omega (arith, long, q.count);
      octets = rw (front, drop_of_length-le (drop w x) {i = length x - w} (omega (arith, length-drop w x)), append-nil, q.octets, rest_whole, rest) (sym behind);
    }

  pub put_octet : (b : ℕ) (e' : List ℕ) → w < length x → e' ≡ e ++ (b ∷ []) → Put e' d (set x w b) (w + 1)
  put_octet b e' h grown = record {
    count = omega (arith, long (b ∷ []) e' grown);
    octets = rw (set_split x w b, front, ← add-one, ← drop-drop 1 w x, rest) (sym (behind (b ∷ []) e' grown));
  }
