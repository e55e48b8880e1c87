-- The tag and the value of a parameter by its first "=", as the code finds it.
use Prim.Native.Nat.{ℕ, ◌+◌, ◌-◌, ◌≤◌, ◌<◌}
use Prim.Native.Char.{code}
use mathlib.Core.Path.{◌≡◌, refl, ap, sym, ◌∙◌}
use mathlib.Core.Logic.{⊎_elim}
use mathlib.Core.Bool.{true, false}
use mathlib.Core.List.{List}
use lib.Dec.{ltb}
use lib.ListN.{length, take, drop}
use borrow.Author.Tests.{ltb-true, ltb-false}
use Rattle.spec_octets.specs.Octets.{trim_start, trim_end}
use Rattle.spec_octets.specs.Pieces.{split}
use Rattle.spec_octets.proofs.ListLaws.{true_or_false}
use Rattle.spec_octets.proofs.PieceLaws.{pieces_join}
use Rattle.spec_octets.proofs.Walks.{rest_whole}
use Rattle.text_labels.specs.Places.{piece_end}
use Rattle.spec_value.specs.Parameters.{cut_parameter, parameter_in}
use Rattle.read_parameters.proofs.FirstPiece.{cut_last, cut_more}

-- p is s without the white space around it, and e the offset of its first "="
module _ (s q p : List ℕ) (e : ℕ) (back : q ≡ trim_end s) (front : p ≡ trim_start q) (cut : e ≡ piece_end (code "=") p 0) where
  trimmed : parameter_in s ≡ cut_parameter (split (code "=") p)
  unfolding parameter_in
  trimmed = rw (front, back)

  pub tag_found : (f t : List ℕ) → f ≡ take e p → t ≡ trim_end f → t ≡ (parameter_in s).tag
  tag_found f t here told = told ∙ ap trim_end here ∙ sym (ap (λ k. k.tag) trimmed ∙ ⊎_elim more last (true_or_false (ltb e (length p))))
    where
      more : ltb e (length p) ≡ true → (cut_parameter (split (code "=") p)).tag ≡ trim_end (take e p)
      more h = rw (cut_more (code "=") p e cut (ltb-true e (length p) h))

      last : ltb e (length p) ≡ false → (cut_parameter (split (code "=") p)).tag ≡ trim_end (take e p)
      last h = rw (cut_last (code "=") p e cut (ltb-false e (length p) h))

  pub no_value : (b : List ℕ) → length p ≤ e → b ≡ take (0 - 0) (drop 0 p) → b ≡ (parameter_in s).value
  no_value b h none = none ∙ sym (ap (λ k. k.value) trimmed ∙ rw (cut_last (code "=") p e cut h))

  pub value_found :
      (b v : List ℕ) → e < length p → b ≡ take (length p - (e + 1)) (drop (e + 1) p) → v ≡ trim_start b → v ≡ (parameter_in s).value
  value_found b v h behind told =
      told ∙ ap trim_start (behind ∙ rest_whole p (e + 1) ∙ ((pieces_join (code "=") (drop (e + 1) p) _).0 refl).0)
      ∙ sym (ap (λ k. k.value) trimmed ∙ rw (cut_more (code "=") p e cut h))
