-- A value by tests on its parts, as the code makes them.
use Prim.Native.Nat.{ℕ, ◌+◌, ◌-◌, ◌≤◌, ◌<◌}
use Prim.Native.Char.{code}
use native.Mathlib.Omega.{arith}
use mathlib.Core.Path.{◌≡◌, sym, ◌∙◌}
use mathlib.Core.Bool.{Bool, true, false}
use mathlib.Core.List.{List}
use lib.ListN.{length, take, drop, take-append-drop}
use borrow.Author.Tests.{lt-ltb, le-ltb}
use Rattle.spec_octets.specs.Pieces.{split}
use Rattle.text_labels.specs.Places.{piece_end}
use Rattle.text_labels.proofs.PieceWalk.{piece_within}
use Rattle.read_value.specs.declared.ValueRead.{ValueRead}
use Rattle.read_value.specs.declared.ValueRead.TheVariants.{Malformed}
use Rattle.spec_value.specs.IssueValues.{trim, are_parameters, name_in, issue_value}
use Rattle.read_value.specs.Places.{name_places, value_at}
use Rattle.spec_octets.proofs.Walks.{rest_whole}
use Rattle.read_parameters.proofs.FirstPiece.{cut_last, cut_more}
use Rattle.read_value.proofs.NamePlaces.{places_front}

-- e is the place of the first semicolon
module _ (s : List ℕ) (e : ℕ) (cut : e ≡ piece_end (code ";") s 0) where
  -- f stands before it, and v is what the name in f says; the parameters begin at k
  module _ (f : List ℕ) (k : ℕ) (v : ValueRead) (front : f ≡ take e s) (told : v ≡ name_places f k (name_in (trim f))) where
    placed : v ≡ name_places s k (name_in (trim (take e s)))
    placed = told ∙ rw front (places_front (take e s) (drop e s) k ∙ rw (take-append-drop e s))

    pub name_alone : k ≡ e → length s ≤ e → v ≡ value_at s
    unfolding value_at issue_value are_parameters
    name_alone end h =
        let whole : k ≡ length s = omega (arith, piece_within (code ";") s 0 e cut (omega arith)) in
        placed ∙ sym (rw (← cut, le-ltb e (length s) h, cut_last (code ";") s e cut h, whole))

  module _ (h : e < length s) (b : List ℕ) (r : Bool) (behind : b ≡ take (length s - (e + 1)) (drop (e + 1) s))
      (fit : r ≡ are_parameters (split (code ";") b)) where
    pub parameters_bad : r ≡ false → Malformed ≡ value_at s
    unfolding value_at issue_value
    parameters_bad bad = sym (rw (cut_more (code ";") s e cut h, ← rest_whole s (e + 1), ← behind, ← fit, bad))

    pub name_first : (f : List ℕ) (k : ℕ) (v : ValueRead) → f ≡ take e s → v ≡ name_places f k (name_in (trim f)) → k ≡ e + 1 → r ≡ true → v ≡ value_at s
    unfolding value_at issue_value
    name_first f k v front told next good =
        placed f k v front told
        ∙ sym (rw (← cut, lt-ltb e (length s) h, cut_more (code ";") s e cut h, ← rest_whole s (e + 1), ← behind, ← fit, good, ← next))
