-- Equality of names: equal lists of labels in lower case, and equal texts in wire form ignoring case.
use native.Mathlib.Omega.{arith}
use mathlib.Core.Path.{◌≡◌, refl, sym, ap, ◌∙◌}
use mathlib.Core.Logic.{◌↔◌, inl}
use mathlib.Core.Bool.{true, false≢true, and-eq-true_iff}
use mathlib.Core.List.{[], ◌∷◌, map, map-append, nil≢cons, cons≢nil}
use lib.ListN.{length, length-map}
use Rattle.spec_limits.specs.Limits.{max_label_octets}
use Rattle.spec_octets.specs.Lists.{All, all_nil, all_cons}
use Rattle.spec_octets.specs.Octets.{is_upper, lower, lowered, equal_ignoring_case}
use Rattle.spec_octets.proofs.ListLaws.{alike}
use Rattle.spec_octets.proofs.Classes.{letter_case}
use Rattle.spec_octets.proofs.Texts.{whole_texts}
use Rattle.spec_name.specs.Names.{Label, Name, wire, same_name, GoodName}
use Rattle.spec_name.specs.Theorems.{WholeNames, NameEdges}
use Rattle.spec_name.proofs.NameLaws.{GoodLabel, one_name}
use Rattle.spec_octets.proofs.WholeLists.{not_a_tail, not_a_front}

same_labels : (m n : Name) → (same_name m n ≡ true) ↔ (map lowered m ≡ map lowered n)
same_labels [] [] = (λ e. refl, λ e. refl)
same_labels [] (y ∷ n) = (λ e. absurd (false≢true e), λ e. absurd (nil≢cons e))
same_labels (x ∷ m) [] = (λ e. absurd (false≢true e), λ e. absurd (cons≢nil e))
same_labels (x ∷ m) (y ∷ n) = (
  λ e. let k = both.0 e in let first = text.0 k.0 in let others = (same_labels m n).0 k.1 in cc,
  λ e. both.1 (text.1 (cc), (same_labels m n).1 (cc)),
)
  where
    both : (same_name (x ∷ m) (y ∷ n) ≡ true) ↔ ((equal_ignoring_case x y ≡ true) × (same_name m n ≡ true))
    both = and-eq-true_iff (equal_ignoring_case x y) (same_name m n)

    text : (equal_ignoring_case x y ≡ true) ↔ (lowered x ≡ lowered y)
    text = whole_texts.0 x y

-- every length octet is below the capital letters, so small letters leave it as it is
length_lower : (l : Label) → GoodLabel l → lower (length l) ≡ length (lowered l)
unfolding max_label_octets
length_lower l g = (letter_case (length l)).1 (inl (omega arith)) ∙ sym (length-map l lower)

wire_lowered : (n : Name) → All GoodLabel n → lowered (wire n) ≡ wire (map lowered n)
wire_lowered [] g = rw ((letter_case 0).1 (inl (omega arith)))
wire_lowered (l ∷ n) (all_cons g gs) = rw (length_lower l g, map-append lower l (wire n), wire_lowered n gs)

good_labels : (n : Name) → All GoodLabel n → All GoodLabel (map lowered n)
good_labels [] g = all_nil
good_labels (l ∷ n) (all_cons g gs) = all_cons (rw (← length-map l lower) at g) (good_labels n gs)

good_lowered : (n : Name) → GoodName n → GoodName (map lowered n)
good_lowered n g = (good_labels n g.0, rw (← wire_lowered n g.0, length-map (wire n) lower) g.1)

same_octets : (m n : Name) → GoodName m → GoodName n → (same_name m n ≡ true) ↔ (equal_ignoring_case (wire m) (wire n) ≡ true)
same_octets m n g h = (
  λ e. text.1 (left ∙ ap wire ((same_labels m n).0 e) ∙ sym right),
  λ e. (same_labels m n).1 (one_name (good_lowered m g) (good_lowered n h) (sym left ∙ text.0 e ∙ right)),
)
  where
    text : (equal_ignoring_case (wire m) (wire n) ≡ true) ↔ (lowered (wire m) ≡ lowered (wire n))
    text = whole_texts.0 (wire m) (wire n)

    left : lowered (wire m) ≡ wire (map lowered m)
    left = wire_lowered m g.0

    right : lowered (wire n) ≡ wire (map lowered n)
    right = wire_lowered n h.0

pub whole_names : WholeNames
whole_names = (
  same_labels,
  λ m n g h. alike (same_name m n) (equal_ignoring_case (wire m) (wire n)) (same_octets m n g h),
  not_a_tail lowered same_name same_labels,
  not_a_front lowered same_name same_labels,
)

pub name_edges_lem : NameEdges
unfolding equal_ignoring_case lower is_upper
name_edges_lem = (refl, refl)
