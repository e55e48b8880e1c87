-- Parameters by tests on their parts, as the code makes them.
use Prim.Native.Nat.{ℕ, ◌+◌, ◌-◌, ◌≤◌, ◌<◌}
use Prim.Native.Char.{code}
use native.Mathlib.Omega.{arith}
use mathlib.Core.Path.{◌≡◌, refl, sym, ◌∙◌}
use mathlib.Core.Bool.{Bool, true, false, ◌&&◌}
use mathlib.Core.List.{List, [], ◌∷◌}
use lib.ListN.{length, take, drop}
use Rattle.spec_octets.specs.Lists.{all}
use Rattle.spec_octets.specs.Octets.{is_blank, trim_start, trim_end, is_parameter_octet}
use Rattle.spec_octets.specs.Label.{is_label}
use Rattle.spec_octets.specs.Pieces.{split}
use Rattle.text_labels.specs.Places.{piece_end}
use Rattle.spec_octets.proofs.ListLaws.{all_true, not_passed}
use Rattle.spec_octets.proofs.PieceLaws.{pieces_join}
use Rattle.text_classes.specs.declared.Class.TheVariants.{Blank, ParameterOctet}
use Rattle.spec_value.specs.IssueValues.{is_parameter_tag, is_tag_and_value, is_parameter, is_blank_alone, are_parameters}
use Rattle.text_classes.specs.Classes.{in_class}
use Rattle.spec_value.proofs.Cuts.{split_one}
use Rattle.spec_octets.proofs.Walks.{rest_whole}
use Rattle.read_parameters.proofs.FirstPiece.{cut_last, cut_more}
use Rattle.spec_value.proofs.Parameters.{value_behind, blank_free}

-- p is s without the blanks around it, and e the place of its first "="
module _ (s q p : List ℕ) (e : ℕ) (back : q ≡ trim_end s) (front : p ≡ trim_start q) (cut : e ≡ piece_end (code "=") p 0) where
  trimmed : is_parameter s ≡ is_tag_and_value (split (code "=") p)
  unfolding is_parameter
  trimmed = rw (front, back)

  pub no_equals : length p ≤ e → false ≡ is_parameter s
  no_equals h = sym (trimmed ∙ rw (cut_last (code "=") p e cut h))

  module _ (t : List ℕ) (h : e < length p) (tag : t ≡ trim_end (take e p)) where
    in_parts : is_parameter s ≡ (is_label t && all is_parameter_octet (trim_start (drop (e + 1) p)))
    unfolding is_parameter_tag
    in_parts = trimmed ∙ rw (cut_more (code "=") p e cut h, value_behind (take e p) (drop (e + 1) p), ← tag)

    pub bad_tag : (r : Bool) → r ≡ is_label t → r ≡ false → false ≡ is_parameter s
    bad_tag r told bad = sym (in_parts ∙ rw (← told, bad))

    pub by_value : (r : Bool) (b v : List ℕ) (a : Bool) → r ≡ is_label t → r ≡ true → b ≡ take (length p - (e + 1)) (drop (e + 1) p) →
        v ≡ trim_start b → a ≡ all (in_class ParameterOctet) v → a ≡ is_parameter s
    by_value r b v a told good behind value all_told =
        sym (in_parts ∙ rw (← told, good, all_told, value, behind, rest_whole p (e + 1)))

-- What stands behind the first semicolon.

blank_alone : (s : List ℕ) → is_blank_alone (split (code ";") s) ≡ all (in_class Blank) s
blank_alone s = go (split (code ";") s) refl
  where
    go : (ps : List (List ℕ)) → split (code ";") s ≡ ps → is_blank_alone ps ≡ all (in_class Blank) s
    go [] e = absurd (((pieces_join (code ";") s []).0 e).1 refl)
    go (p ∷ []) e = rw ((pieces_join (code ";") s (p ∷ [])).0 e).0
    go (p ∷ q ∷ ps) e = sym (not_passed (all is_blank s) (λ h.
        let one = split_one (code ";") (blank_free ((all_true is_blank s).0 h)) in
        let z : ◌≡◌ {A = ℕ} 0 1 = cc in
        omega arith))

module _ (s : List ℕ) (b : Bool) (told : b ≡ all (in_class Blank) s) where
  pub only_blanks : b ≡ true → true ≡ are_parameters (split (code ";") s)
  unfolding are_parameters
  only_blanks h = rw (blank_alone s, ← told, h)

  pub by_pieces : (t : Bool) → b ≡ false → all is_parameter (split (code ";") s) ≡ t → t ≡ are_parameters (split (code ";") s)
  unfolding are_parameters
  by_pieces t h e = rw (blank_alone s, ← told, h) (sym e)
